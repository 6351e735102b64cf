use Rattle.std.proofs.Common.{rules, ◌≡◌, ◌==◌}
use Rattle.std.specs.Prelude.{filter, not}
use Rattle.std.proofs.lemmas.Fn.{filter_same}
use Rattle.nm_types.specs.declared.rows.OpenRow.{OpenRow}
use Rattle.nm_rules.proofs.OpenRows.{rises-filter}
use Rattle.nm_shares.proofs.rows.drop_at.Goals as goal

pub returns : goal.returns
returns c =
    let dropped : c.retain.new.self.items ≡ filter (λ (row : OpenRow). not (row.counter == c.args.counter)) c.args.rows.now.items =
    filter_same _ _ _ (λ row b f' h. search rules) _ _ c.retain.ensures.filtered in
    record {
      rising = λ last rising. rw dropped (rises-filter (λ row. not (row.counter == c.args.counter)) 0 last c.args.rows.now.items rising);
      dropped = dropped;
    }
