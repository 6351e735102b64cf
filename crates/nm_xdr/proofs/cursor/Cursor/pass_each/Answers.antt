use Rattle.std.proofs.Common.{sym, ◌∙◌}
use Rattle.nm_xdr.proofs.PassLaws.{word_passed, words_passed}
use Rattle.nm_xdr.proofs.cursor.Cursor.pass_each.Goals as goal

pub loop-preserved : goal.loop-preserved
loop-preserved c = (
  sym (word_passed c.args.count c.loop.counter c.loop.self.rest _ _ c.loop-test.true c.in_ok-take_u32.ensures.item.0) ∙ c.loop.invariant.0,
  c.in_ok-take_u32.ensures.item.1 ∙ c.loop.invariant.1,
)

pub returns : goal.returns
returns c = (sym c.loop.invariant.0 ∙ words_passed c.args.count c.loop.counter c.loop.self.rest c.loop-test.false, c.loop.invariant.1)
