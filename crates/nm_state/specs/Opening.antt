-- What operations on opens that nothing stops leave of the tables.
use Rattle.std.specs.Prelude.{◌≡◌, ◌<◌, ◌≤◌, ◌-◌, ◌^◌, ℕ}
use Rattle.nm_types.specs.Parties.{Party}
use Rattle.nm_rules.specs.Contents.{TreeNow, TreeWord, file_at, size_limit, total_limit, total_size, tree_after}
use Rattle.nm_rules.specs.LockRows.{locks_after, ranges_after}
use Rattle.nm_rules.specs.LockRows.LockWord.{EndedOf, Released}
use Rattle.nm_rules.specs.Seqids.{closed_after, owners_after}
use Rattle.nm_rules.specs.Seqids.OwnerWord.{Gone, GoneOf}
use Rattle.nm_rules.specs.Shares.{OpenWord, put_open, opens_after}
use Rattle.nm_rules.specs.Shares.OpenWord.{DropOf}
use Rattle.nm_rules.specs.Past.{claimed_name, opener, open_tree}
use Rattle.nm_rules.specs.Seen.{Seen, after}
use Rattle.nm_rules.specs.Answer.{answer_to}
use Rattle.nm_rules.specs.Opens.{file_to_open, target}
use Rattle.nm_types.specs.declared.calls.Owner.{Owner}
use Rattle.nm_types.specs.declared.calls.Event.{Event}
use Rattle.nm_types.specs.declared.calls.Reply.{Reply}
use Rattle.nm_types.specs.declared.args.OpenArgs.{OpenArgs}
use Rattle.nm_shares.specs.Rows.{row_to_take, last_after}

-- what an OPEN does to the tree: it makes its file, cuts it, or neither
unfoldable pub open_word : Seen → ℕ → OpenArgs → TreeWord
open_word s file args = open_tree (file_at (file_to_open s file args) s.tree.table) file (claimed_name args.claim) args.opentype
    (target s file args) (file_to_open s file args)

-- the open that an OPEN takes
unfoldable pub after_taking : Seen → Owner → ℕ → ℕ → ℕ → Seen
after_taking s owner file access deny = record s {
  opens = put_open (row_to_take s.last s.opens owner file access deny) s.opens;
  last = last_after s.last s.opens owner file;
}

-- the change of the tree
unfoldable pub after_word : TreeWord → Seen → Seen
after_word word s = record s { tree = tree_after word s.tree }

unfoldable pub after_open : Seen → Party → ℕ → OpenArgs → Seen
after_open s party file args =
    after_taking (after_word (open_word s file args) s) (opener party args) (file_to_open s file args) args.access args.deny

-- the change of the opens
unfoldable pub after_opens : OpenWord → Seen → Seen
after_opens word s = record s { opens = opens_after word s.opens }

unfoldable pub after_end : Seen → Party → Seen
after_end s party = record s {
  opens = opens_after (DropOf party) s.opens;
  owners = owners_after (GoneOf party) s.owners;
  closed = closed_after (GoneOf party) s.closed;
  locks = locks_after (EndedOf party) s.locks;
  ranges = ranges_after (EndedOf party) s.locks s.ranges;
}

-- the release of a lock owner
unfoldable pub after_release : Owner → Seen → Seen
after_release owner s = record s {
  owners = owners_after (Gone owner) s.owners;
  closed = closed_after (Gone owner) s.closed;
  locks = locks_after (Released owner) s.locks;
  ranges = ranges_after (Released owner) s.locks s.ranges;
}

-- The reply is the answer to the event, and the tables are those after it.
pub record Applied (before : Seen) (event : Event) (reply : Reply) (new : Seen) : Type 0 where
  pub answer : reply ≡ answer_to before event
  pub tables : new ≡ after before event reply

-- There is room for a file of so many bytes, in the numbers too.
pub record HasRoom (tree : TreeNow) (size : ℕ) : Type 0 where
  pub changes : tree.change < 2 ^ 63
  pub files : tree.last_file < 2 ^ 63
  pub fits : size ≤ size_limit
  pub room : size ≤ total_limit - total_size tree.table
