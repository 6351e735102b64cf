use Rattle.std.proofs.Common.{◌≡◌, ◌<◌, ap, sym, subst, length, ◌∙◌}
use Rattle.nm_rules.specs.Answer.{answer_to}
use Rattle.nm_journal.specs.Journals.{JournalNow, tables_now}
use Rattle.nm_journal.proofs.JournalLemmas.{answered_with, longer}
use Rattle.nm_journal.proofs.journal.Journal.add.Goals as goal

pub invariant_of-self : goal.invariant_of-self
invariant_of-self c = (
  rw c.in-Ok.ensures.items (longer c.self.inside.entries.items c.args.entry c.self.inside.keep
      (subst (λ (j : JournalNow). length j.entries < j.keep) (sym c.self.view_is) c.requires.fits)),
  (λ unspent. rw c.in-Ok.ensures.items
      (answered_with c.self.inside.base.seen c.self.inside.entries.items c.args.entry (c.self.invariant.1 unspent)
      (subst (λ (j : JournalNow). c.args.entry.reply ≡ answer_to (tables_now j) c.args.entry.event) (sym c.self.view_is)
      (c.requires.answered (ap (λ (j : JournalNow). j.spent) (sym c.self.view_is) ∙ unspent))))),
)
