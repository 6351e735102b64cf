-- The latest entries of a file system at a server, one by one, and the tables before the first of them.
use Rattle.std.specs.Prelude.{◌≡◌, ◌+◌, ◌-◌, ◌/◌, ◌^◌, ℕ, zero, suc, Bool, nat_le, min, length, take, drop, map, List, [], ◌∷◌, ◌++◌, if◌then◌else◌}
use Rattle.nm_rules.specs.Answer.{answer_to, reply_with}
use Rattle.nm_types.specs.Parties.{Party}
use Rattle.nm_rules.specs.Past.{Past}
use Rattle.nm_rules.specs.Seen.{Seen, after}
use Rattle.nm_types.specs.declared.calls.Entry.{Entry}
use Rattle.nm_types.specs.declared.calls.Event.TheVariants.{Ended}
use Rattle.nm_types.specs.declared.calls.ReplyValue.TheVariants as told
use Rattle.nm_types.specs.declared.status.OpStatus.TheVariants.{Nfs4Ok}

pub record JournalNow : Type 0 where
  -- at most so many entries are kept one by one
  pub keep : ℕ
  -- the tables before the first of them
  pub base : Seen
  -- memory was wanting while entries went into the base: nothing is known of it
  pub spent : Bool
  -- oldest first
  pub entries : List Entry
  -- how many have gone into the base, at most 2^64 - 1
  pub folded : ℕ
  -- so many can be added without memory
  pub room : ℕ

-- ---- what entries leave

abbrev pub after_entry : Seen → Entry → Seen
after_entry tables x = after tables x.event x.reply

abbrev pub after_entries : Seen → List Entry → Seen
after_entries tables [] = tables
after_entries tables (x ∷ xs) = after_entries (after_entry tables x) xs

-- Each reply is the answer after the entries before it.
abbrev pub AreAnswered : Seen → List Entry → Type 0
AreAnswered tables [] = Unit {0}
AreAnswered tables (x ∷ xs) = (x.reply ≡ answer_to tables x.event) × AreAnswered (after_entry tables x) xs

-- the past with these entries, oldest first, behind it
abbrev pub with_entries : List Entry → Past → Past
with_entries [] es = es
with_entries (x ∷ xs) es = with_entries xs (x ∷ es)

-- the tables that a journal stands for
abbrev pub tables_now : JournalNow → Seen
tables_now j = after_entries j.base j.entries

-- ---- room

-- The older half goes, rounded up, again and again, until no more than so many are left.
abbrev pub halved : (times left most : ℕ) → ℕ
halved zero left most = 0
halved (suc n) left most = if nat_le left most then left else halved n (left / 2) most

-- how many of so many entries stay where at most so many may: 64 halves leave none of any number
unfoldable pub left_of : (count most : ℕ) → ℕ
left_of count most = halved 64 count most

abbrev pub counted : ℕ → ℕ → ℕ
counted folded n = min (folded + n) (2 ^ 64 - 1)

-- the oldest so many go into the base
abbrev pub folded_by : ℕ → JournalNow → JournalNow
folded_by n j = record j {
  base = after_entries j.base (take n j.entries);
  entries = drop n j.entries;
  folded = counted j.folded n;
}

-- so many places are made free, as far as there are
unfoldable pub with_room : ℕ → JournalNow → JournalNow
with_room places j = folded_by (length j.entries - left_of (length j.entries) (j.keep - places)) j

-- ---- ends

abbrev pub end_of : Party → Entry
end_of party = record { event = Ended party; reply = reply_with Nfs4Ok told.Nothing }

-- Of more ends than are kept the first go into the base at once.
unfoldable pub with_ends : List Party → JournalNow → JournalNow
with_ends parties j = record j {
  base = after_entries j.base (map end_of (take (length parties - j.keep) parties));
  entries = j.entries ++ map end_of (drop (length parties - j.keep) parties);
  folded = counted j.folded (length parties - j.keep);
}
