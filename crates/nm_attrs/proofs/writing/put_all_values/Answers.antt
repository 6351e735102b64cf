use Rattle.std.proofs.Common.{arith}
use Rattle.nm_xdr.proofs.PutLaws.{closed_room}
use Rattle.nm_attrs.specs.Attributes.{values_of}
use Rattle.nm_attrs.proofs.writing.put_all_values.Goals as goal

pub close_opaque-requires-clause-inside : goal.close_opaque-requires-clause-inside
close_opaque-requires-clause-inside c =
    let room = closed_room c.args.out.now c.put_u32.new.self c.put_values.new.writer (values_of c.args.attrs.now) 0 _ c.len-start.ensures c.in_ok-put_u32.ensures.ok c.in_ok-put_values.ensures in
    omega (arith, room)

pub close_opaque-requires-clause-short : goal.close_opaque-requires-clause-short
close_opaque-requires-clause-short c =
    let room = closed_room c.args.out.now c.put_u32.new.self c.put_values.new.writer (values_of c.args.attrs.now) 0 _ c.len-start.ensures c.in_ok-put_u32.ensures.ok c.in_ok-put_values.ensures in
    omega (arith, room, c.requires.short)
