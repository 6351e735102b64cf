use Rattle.std.proofs.Common.{◌≤◌, ◌+◌, ℕ, length, ap, sym, subst, ◌∙◌, arith, take, map}
use Rattle.std.specs.Prelude.{min}
use Rattle.nm_journal.specs.Journals.{JournalNow, after_entries, end_of}
use Rattle.nm_journal.proofs.JournalLemmas.{ends_kept, ends_longer}
use Rattle.nm_journal.proofs.journal.Journal.end_all.Goals as goal

pub invariant_of-self : goal.invariant_of-self
invariant_of-self c =
    let over = c.saturating_sub-over.result in
    let fits : length c.self.inside.entries.items + min (length c.args.instances.now) c.self.inside.keep ≤ c.self.inside.keep =
    subst (λ (j : JournalNow). length j.entries + min (length c.args.instances.now) j.keep ≤ j.keep) (sym c.self.view_is) c.requires.fits in (
      rw c.push_ends.ensures.items (ends_longer c.self.inside.entries.items c.split_at.result.1.now c.self.inside.keep (omega (arith, fits, c.split_at.ensures.back_len, c.saturating_sub-over.ensures))),
      (λ unspent. rw c.push_ends.ensures.items
          (ends_kept over c.self.inside.base.seen c.end_first.new.base.seen c.self.inside.entries.items c.split_at.result.0.now c.split_at.result.1.now
          (λ none. c.end_first.ensures.seen ∙ ap (λ parties. after_entries c.self.inside.base.seen (map end_of parties)) (c.split_at.ensures.front ∙ ap (λ (n : ℕ). take n c.args.instances.now) none))
          (λ some. omega (arith, fits, some, c.saturating_sub-over.ensures))
          (c.self.invariant.1 (sym c.end_first.ensures.spent ∙ unspent)))),
    )
