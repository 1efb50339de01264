-- Reading a name from its parts.
use Rattle.std.proofs.Common.{◌≡◌, ℕ, Bool, true, List, length, Ok, sym, ap, ◌∙◌}
use Rattle.std.specs.{Prelude.{◌&&◌, not, nat_lt, nat_le}, List.{list_any}, Str.{bytes_eq}}
use Rattle.osek_values.specs.Names.{is_name}
use Rattle.image_fields.specs.{declared.fault.ImageRule.TheVariants.{I4}, Reading.{Read, ◌>>=◌, kept, tested_byte_at, text_at, name_at}}
use Rattle.image_fields.proofs.Steps.{kept_again, done_with}

abbrev pub is_fresh : List (List ℕ) → List ℕ → Bool
is_fresh earlier n = is_name n && not (list_any (λ m. bytes_eq m n) earlier)

pub name_read : (earlier : List (List ℕ)) (bytes : List ℕ) (len : ℕ) (after text rest name : List ℕ) → tested_byte_at (λ n. nat_lt 0 n && nat_le n 64) I4 bytes ≡ Ok (len, after)
    → text_at len (length bytes) after ≡ Ok (text, rest) → is_fresh earlier text ≡ true → name ≡ text → name_at earlier bytes ≡ Ok (name, rest)
unfolding name_at
name_read earlier bytes len after text rest name len_is text_is fresh same =
    ap (λ (r : Read ℕ). r >>= λ l. text_at l.0 (length bytes) l.1 >>= λ n. kept (is_fresh earlier n.0) I4 bytes n) len_is
    ∙ ap (λ (r : Read (List ℕ)). r >>= λ n. kept (is_fresh earlier n.0) I4 bytes n) text_is
    ∙ kept_again (is_fresh earlier text) I4 bytes (text, rest) fresh
    ∙ ap (λ (n : List ℕ). done_with (n, rest)) (sym same)
