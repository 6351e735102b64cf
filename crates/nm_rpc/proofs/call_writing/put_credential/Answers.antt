use Rattle.std.proofs.Common.{arith}
use Rattle.nm_xdr.proofs.PutLaws.{closed_room}
use Rattle.nm_rpc.specs.Messages.{credential}
use Rattle.nm_rpc.proofs.Lengths.{credential_fits}
use Rattle.nm_rpc.proofs.call_writing.put_credential.Goals as goal

pub close_opaque-requires-clause-inside : goal.close_opaque-requires-clause-inside
close_opaque-requires-clause-inside c =
    let room = closed_room c.args.writer.now c.put_u32.new.self c.put_inside.new.writer (credential c.args.head.now) 0 _ c.len-start.ensures c.in_ok-put_u32.ensures.ok c.in_ok-put_inside.ensures in
    omega (arith, room)

pub close_opaque-requires-clause-short : goal.close_opaque-requires-clause-short
close_opaque-requires-clause-short c =
    let room = closed_room c.args.writer.now c.put_u32.new.self c.put_inside.new.writer (credential c.args.head.now) 0 _ c.len-start.ensures c.in_ok-put_u32.ensures.ok c.in_ok-put_inside.ensures in
    omega (arith, room, credential_fits c.args.head.now c.requires)
