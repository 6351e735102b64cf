use Rattle.std.proofs.Common.{◌≡◌, ◌-◌, ap, ◌∙◌, drop}
use Rattle.nm_state.specs.State.{StateNow}
use Rattle.nm_journal.specs.Journals.{JournalNow}
use Rattle.nm_journal.proofs.JournalLemmas.{answered_rest, shorter}
use Rattle.nm_journal.proofs.journal.Journal.make_room.Goals as goal

pub invariant_of-self-2 : goal.invariant_of-self-2
invariant_of-self-2 c =
    let rest : c.drop-drain.new.self.0.items ≡ drop (c.len-count.result - c.left_of-left.result) c.self.inside.entries.items =
    c.drop-drain.ensures.items ∙ c.drain.ensures.kept ∙ ap (drop (c.len-count.result - c.left_of-left.result)) c.reserve.ensures.items in (
      rw rest (shorter (c.len-count.result - c.left_of-left.result) c.self.inside.keep c.self.inside.entries.items c.self.invariant.0),
      (λ unspent. rw (rest, ap (λ (s : StateNow). s.seen) c.in_ok-fold.ensures.ok, c.deref.ensures.value, c.reserve.ensures.items)
          (answered_rest (c.len-count.result - c.left_of-left.result) c.self.inside.base.seen c.self.inside.entries.items
          (c.self.invariant.1 (ap (λ (j : JournalNow). j.spent) c.self.view_is ∙ c.requires)))),
    )
