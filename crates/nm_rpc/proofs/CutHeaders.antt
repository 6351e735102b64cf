-- A header that is cut is missing the item in which it is cut.
use Rattle.std.proofs.Common.{arith}
use Rattle.nm_xdr.specs.Fields.{made}
use Rattle.nm_xdr.proofs.CutLaws.{word_cut, bytes_cut}
use Rattle.nm_xdr.proofs.CutStructures.{Cuts, cut_none, cut_field}
use Rattle.nm_xdr.proofs.ItemLaws.{word_item}
use Rattle.nm_rpc.specs.Messages.{CallHeader, parts, header_at, IsHeader}
use Rattle.nm_rpc.proofs.HeaderLaws.{auth_item}

pub header_cut : (h : CallHeader) → IsHeader h → Cuts header_at (parts h)
unfolding header_at
header_cut h f =
    cut_field word_item word_cut _ h.xid _ f.xid (
    cut_field word_item word_cut _ h.kind _ f.kind (
    cut_field word_item word_cut _ h.rpc_version _ f.rpc_version (
    cut_field word_item word_cut _ h.program _ f.program (
    cut_field word_item word_cut _ h.version _ f.version (
    cut_field word_item word_cut _ h.procedure _ f.procedure (
    cut_field word_item word_cut _ h.flavor _ f.flavor (
    cut_field auth_item (bytes_cut 400 (omega arith)) _ h.credential _ f.credential (
    cut_field word_item word_cut _ h.verifier_flavor _ f.verifier_flavor (
    cut_field auth_item (bytes_cut 400 (omega arith)) _ h.verifier _ f.verifier (
    cut_none (made h)))))))))))
