use Rattle.std.proofs.Common.{◌+◌, sym, ap, ◌∙◌}
use Rattle.nm_rules.specs.Shares.{open_of}
use Rattle.nm_types.specs.declared.calls.Owner.{Owner}
use Rattle.nm_shares.proofs.RowLemmas.{took_joined, took_new}
use Rattle.nm_shares.proofs.rows.take.Goals as goal

pub returns-in-Some-clause-ok : goal.returns-in-Some-clause-ok
returns-in-Some-clause-ok c =
    rw c.seqid_after-seqid.ensures
    (took_joined c.args.last c.args.rows.now.items c.args.owner.now c.args.file c.args.access c.args.deny c.in-Some.row.now _ c.requires.rising
    (ap (open_of c.args.owner.now c.args.file) (sym c.deref.ensures.value) ∙ sym c.in-Some.ensures)
    (c.renew.ensures c.args.last c.requires.rising))

pub returns-in_ok-push-in-None-clause-ok : goal.returns-in_ok-push-in-None-clause-ok
returns-in_ok-push-in-None-clause-ok c =
    rw c.in_ok-push-in-None.ensures.items
    (took_new c.args.last c.args.rows.now.items c.args.owner.now c.args.file c.args.access c.args.deny _ c.requires.rising (ap (open_of c.args.owner.now c.args.file) (sym c.deref.ensures.value) ∙ sym c.in-None.ensures)
    (ap (λ (owner : Owner). record { counter = c.args.last + 1; seqid = 1; owner = owner; file = c.args.file; access = c.args.access; deny = c.args.deny })
    c.in_ok-owner-in-None.ensures))
