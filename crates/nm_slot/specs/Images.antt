-- What one server offers another, as a slot takes it.
use Rattle.std.specs.Prelude.{◌≡◌, ◌≤◌, ◌^◌, ℕ, false}
use Rattle.nm_slot.specs.declared.image.Image.{Image}
use Rattle.nm_slot.specs.SlotNow.{Offer}

-- the offer that an image makes
abbrev pub offer_of : Image → Offer
offer_of image = record { number = image.number; epoch = image.epoch; count = image.count; state = image.state.seen }

-- the image of a file system that makes this offer
abbrev pub image_of : ℕ → Offer → Image
image_of fs offer =
    record { state = record { seen = offer.state; spent = false }; fs = fs; count = offer.count; epoch = offer.epoch; number = offer.number }

-- An image of that file system, with numbers that end at 2^63.
pub record MayBeOffered (its_fs : ℕ) (image : Image) : Type 0 where
  pub fs : image.fs ≡ its_fs
  pub state : image.state.seen.fs ≡ its_fs
  pub count : image.count ≤ 2 ^ 63
  pub epoch : image.epoch ≤ 2 ^ 63
  pub number : image.number ≤ 2 ^ 63
