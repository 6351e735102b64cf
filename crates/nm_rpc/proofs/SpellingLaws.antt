-- Spellings of records.
use Rattle.std.proofs.Common.{◌≡◌, ℕ, ◌+◌, ◌^◌, ◌<◌, Bool, true, false, List, [], ◌∷◌, ◌++◌, length, get_or, cond, refl, sym, ap, ◌∙◌, arith}
use Rattle.std.proofs.lemmas.Bool.{le-leb, lt-leb}
use Rattle.std.proofs.lemmas.List.{append-nil}
use Rattle.std.proofs.lemmas.Nat.{from_be_bytes-to_be_bytes_4, be_bytes_4}
use Rattle.nm_xdr.specs.Items.{word}
use Rattle.nm_rpc.specs.Stream.{IsFragment, IsSpellingOf, number_of, announced, is_last}

-- A number is that of its word.
pub number_of-word : (n : ℕ) → n < 2 ^ 32 → number_of (word n) ≡ n
unfolding word
number_of-word n fits = let back = from_be_bytes-to_be_bytes_4 n fits in omega (arith, back)

length-word : (n : ℕ) → length (word n) ≡ 4
unfolding word
length-word n = refl

-- A header's number has the top bit where its fragment is the last, and the length in the others.
pub header_reads : (last : Bool) (n : ℕ) → n < 2147483648 → let number = cond last 2147483648 0 + n in (number < 2 ^ 32) × (announced number ≡ n) × (is_last number ≡ last)
header_reads true n few = (omega arith, omega arith, le-leb _ _ (omega arith))
header_reads false n few = (omega arith, omega arith, lt-leb 2147483648 (0 + n) (omega arith))

-- Such a header with a body of that length is a fragment.
pub fragment_spelled : (last : Bool) (body : List ℕ) → length body < 2147483648
    → IsFragment last (record { header = word (cond last 2147483648 0 + length body); body = body })
fragment_spelled last body few =
    let fits = header_reads last (length body) few in
    let number = number_of-word (cond last 2147483648 0 + length body) fits.0 in
    record {
      four = length-word (cond last 2147483648 0 + length body);
      whole = ap (λ (n : ℕ). announced n) number ∙ fits.1;
      flagged = ap (λ (n : ℕ). is_last n) number ∙ fits.2;
    }

-- The word of a header's number is the header.
pub word-number_of : (header : List ℕ) → length header ≡ 4 → ((i : ℕ) → get_or header i 0 < 256) → word (number_of header) ≡ header
unfolding word
word-number_of [] four bytes = absurd (omega (arith, four))
word-number_of (a ∷ []) four bytes = absurd (omega (arith, four))
word-number_of (a ∷ b ∷ []) four bytes = absurd (omega (arith, four))
word-number_of (a ∷ b ∷ c ∷ []) four bytes = absurd (omega (arith, four))
word-number_of (a ∷ b ∷ c ∷ d ∷ []) four bytes =
    let header : List ℕ = a ∷ b ∷ c ∷ d ∷ [] in
    be_bytes_4 header (number_of header) refl bytes (omega arith)
word-number_of (a ∷ b ∷ c ∷ d ∷ x ∷ xs) four bytes = absurd (omega (arith, four))

-- A message is spelled by one last fragment.
pub message_spelled : (message bytes : List ℕ) → length message < 2147483648 → bytes ≡ word (2147483648 + length message) ++ message → IsSpellingOf message bytes
message_spelled message bytes few e =
    let header : List ℕ = word (2147483648 + length message) in
    record {
      earlier = [];
      end = record { header = header; body = message };
      not_last = tt;
      last = fragment_spelled true message few;
      whole = e ∙ sym (append-nil (header ++ message));
      parts = sym (append-nil message);
    }
