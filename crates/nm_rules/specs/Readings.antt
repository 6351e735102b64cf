-- What an owner holds, in the standard's words, read off the entries alone.
use Rattle.std.specs.Prelude.{◌≡◌, ◌==◌, ◌&&◌, ℕ, Bool, false, List, [], ◌∷◌, Option, Some, None, option_map, if◌then◌else◌, bit_or}
use Rattle.nm_types.specs.Parties.{Party, same_party}
use Rattle.nm_types.specs.Owners.{same_owner}
use Rattle.nm_rules.specs.Shares.{is_open_of, open_of, shares_conflict}
use Rattle.nm_rules.specs.Past.{Past, Now, now, acts, opener}
use Rattle.nm_types.specs.declared.args.OpenArgs.{OpenArgs}
use Rattle.nm_types.specs.declared.calls.Deed.{Deed}
use Rattle.nm_types.specs.declared.calls.Deed.TheVariants.{Open, OpenDowngrade, Close}
use Rattle.nm_types.specs.declared.calls.Owner.{Owner}
use Rattle.nm_types.specs.declared.calls.Event.{Event}
use Rattle.nm_types.specs.declared.calls.Event.TheVariants.{Asked, Ended}
use Rattle.nm_types.specs.declared.calls.Reply.{Reply}
use Rattle.nm_types.specs.declared.calls.ReplyValue.{ReplyValue}
use Rattle.nm_types.specs.declared.calls.ReplyValue.TheVariants.{Open as OpenReply, OpenDowngrade as DowngradeReply, Close as CloseReply}
use Rattle.nm_types.specs.declared.rows.OpenRow.{OpenRow}

-- an access and a deny
pub record Share : Type 0 where
  pub access : ℕ
  pub deny : ℕ

-- The open that a stateid names is this owner's, of this file.
abbrev pub names_open_of : Owner → ℕ → Option OpenRow → Bool
names_open_of owner file None = false
names_open_of owner file (Some row) = is_open_of owner file row

-- A CLOSE that acted closed the open of this owner on this file.
abbrev pub closes : Now → Owner → ℕ → Deed → ReplyValue → Bool
closes n owner file (Close args) (CloseReply (Some id)) = names_open_of owner file (n.open_by id.counter)
closes n owner file _ _ = false

-- An OPEN that acted was one of this owner, and opened this file.
abbrev pub opens_by : Owner → ℕ → Option Party → OpenArgs → ReplyValue → Bool
opens_by owner file (Some party) args (OpenReply (Some opened)) = (opened.file == file) && same_owner owner (opener party args)
opens_by owner file _ _ _ = false

abbrev pub opens : Owner → ℕ → Option Party → Deed → ReplyValue → Bool
opens owner file caller (Open args) value = opens_by owner file caller args value
opens owner file caller _ value = false

-- With this entry the owner no longer has the file open: a CLOSE of it acted, or the owner's client ended.
abbrev pub ends_share : Now → Owner → ℕ → Event → Reply → Bool
ends_share n owner file (Ended party) r = same_party party owner.instance
ends_share n owner file (Asked call verdict) r = if acts n call r then closes n owner file call.deed r.value else false

-- With this entry the owner opens the file, for the first time or once more.
abbrev pub takes_share : Now → Owner → ℕ → Event → Reply → Bool
takes_share n owner file (Ended party) r = false
takes_share n owner file (Asked call verdict) r = if acts n call r then opens owner file call.caller call.deed r.value else false

-- An OPEN_DOWNGRADE that acted narrowed the open of this owner on this file.
abbrev pub narrows : Now → Owner → ℕ → Deed → ReplyValue → Bool
narrows n owner file (OpenDowngrade args) (DowngradeReply (Some id)) = names_open_of owner file (n.open_by id.counter)
narrows n owner file _ _ = false

-- With this entry the owner's share of the file becomes what was asked.
abbrev pub sets_share : Now → Owner → ℕ → Event → Reply → Bool
sets_share n owner file (Ended party) r = false
sets_share n owner file (Asked call verdict) r = if acts n call r then narrows n owner file call.deed r.value else false

-- what an OPEN or an OPEN_DOWNGRADE asks for; nothing else asks for a share
abbrev pub deed_share : Deed → Share
deed_share (Open args) = record { access = args.access; deny = args.deny }
deed_share (OpenDowngrade args) = record { access = args.access; deny = args.deny }
deed_share _ = record { access = 0; deny = 0 }

abbrev pub asked_share : Event → Share
asked_share (Asked call verdict) = deed_share call.deed
asked_share (Ended party) = record { access = 0; deny = 0 }

-- Two shares of one owner on one file are one, with the access and the deny of both.
abbrev pub joined : Option Share → Share → Option Share
joined None share = Some share
joined (Some before) share = Some (record { access = bit_or before.access share.access; deny = bit_or before.deny share.deny })

-- The share of an owner on a file: that of its latest OPEN_DOWNGRADE that acted, joined with those of its OPENs that acted
-- later; or those of all its OPENs that acted, where there was none; since its latest CLOSE that acted, or its client's latest
-- end. None where there is no such OPEN (RFC 7530, 9.9, 16.16 and 16.19).
unfoldable pub share_of : Past → Owner → ℕ → Option Share
share_of [] owner file = None
share_of (x ∷ earlier) owner file =
    if ends_share (now earlier) owner file x.event x.reply then None
    else (if takes_share (now earlier) owner file x.event x.reply
    then joined (share_of earlier owner file) (asked_share x.event)
    else (if sets_share (now earlier) owner file x.event x.reply then Some (asked_share x.event)
    else share_of earlier owner file))

-- no share at all, or two that don't conflict
abbrev pub AreCompatible : Option Share → Option Share → Type 0
AreCompatible None other = Unit {0}
AreCompatible (Some a) None = Unit {0}
AreCompatible (Some a) (Some b) = shares_conflict a.access a.deny b.access b.deny ≡ false

-- the share that a row of the table keeps
abbrev pub row_share : OpenRow → Share
row_share row = record { access = row.access; deny = row.deny }

-- the share that an owner has in a table
abbrev pub share_in : Owner → ℕ → List OpenRow → Option Share
share_in owner file rows = option_map row_share (open_of owner file rows)
