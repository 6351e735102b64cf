use Rattle.std.proofs.Common.{rules, ◌≡◌}
use Rattle.std.specs.Prelude.{filter, not}
use Rattle.std.proofs.lemmas.Fn.{filter_same}
use Rattle.nm_types.specs.Parties.{same_party}
use Rattle.nm_rules.specs.Shares.{opens_after}
use Rattle.nm_types.specs.declared.rows.OpenRow.{OpenRow}
use Rattle.nm_rules.proofs.OpenRows.{rises-filter}
use Rattle.nm_shares.proofs.rows.drop_of.Goals as goal

pub returns : goal.returns
unfolding opens_after
returns c =
    let dropped : c.retain.new.self.items ≡ filter (λ (row : OpenRow). not (same_party c.args.instance.now row.owner.instance)) c.args.rows.now.items =
    filter_same _ _ _ (λ row b f' h. search rules) _ _ c.retain.ensures.filtered in
    record {
      rising = λ last rising. rw dropped (rises-filter (λ row. not (same_party c.args.instance.now row.owner.instance)) 0 last c.args.rows.now.items rising);
      dropped = dropped;
    }
