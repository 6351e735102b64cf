use Rattle.std.proofs.Common.{◌<◌, ◌≤◌, ◌^◌, [], length, All}
use Rattle.std.proofs.lemmas.List.Elements.{All-from_recursion, recursion_from_All}
use Rattle.nm_xdr.proofs.FieldLaws.{fits_as, each_fits, each_fits_after}
use Rattle.nm_xdr.proofs.ItemLaws.{word_item, counted_item, optional_item}
use Rattle.nm_xdr.proofs.laws.rows_are_read_as_spelled.Goals as goal

pub returns-clause-rows : goal.returns-clause-rows
returns-clause-rows c = λ max small.
    fits_as (λ xs. (length xs ≤ max) × All (λ n. n < 2 ^ 32) xs)
    (λ xs f. (f.0, each_fits_after (λ n. n < 2 ^ 32) [] xs (recursion_from_All (λ n. n < 2 ^ 32) xs f.1)))
    (λ xs f. (f.0, All-from_recursion (λ n. n < 2 ^ 32) xs (each_fits (λ n. n < 2 ^ 32) [] xs f.1)))
    (counted_item max small (λ _. word_item))

pub returns-clause-absent : goal.returns-clause-absent
returns-clause-absent c = optional_item word_item
