-- An array that `array::from_fn` makes, where each call gives what a definition says, is the table of the definition.
use Rattle.std.specs.Prelude.{slice_index_or}
use Rattle.std.specs.Array.{IsFromFnResult, IsFromFnResultFrom}
use denote.Param.Members.{Mut, Called}
use Prim.Native.Nat.{ℕ, zero, suc, ◌+◌, ◌<◌}
use mathlib.Core.Path.{◌≡◌, refl, sym, ◌∙◌, subst}
use mathlib.Core.List.{List, [], ◌∷◌}
use native.Mathlib.Omega.{arith}
use lib.Seq.{ext_get_or}
use Rattle.protocol.specs.Lists.{table_from, table}
use Rattle.laws.specs.Lists.{length-table, get_or-table}

module _ {F B : Type 0} (g : Mut F (ℕ × Unit {0}) B) (f : F) (v : ℕ → B) (m : ℕ)
    (same : (q : F) (j : ℕ) (y : B) → j < m → Called g f (j, tt) y q → (y ≡ v j) × (q ≡ f))
  where
    made_at : (xs : List B) (d : B) (i n : ℕ) → i + n ≡ m → IsFromFnResultFrom g f xs i n → (j : ℕ) → j < n
        → slice_index_or xs (i + j) d ≡ v (i + j)
    made_at xs d i zero e z j h = absurd (omega arith)
    made_at xs d i (suc n) e (q, y, at, k, rest) zero h =
        let z : i + 0 ≡ i = omega arith in
        rw z (at.1 d ∙ (same q i y (omega arith) k).0)
    made_at xs d i (suc n) e (q, y, at, k, rest) (suc j) h =
        let z : i + suc j ≡ i + 1 + j = omega arith in
        rw z
        (made_at xs d (i + 1) n (omega arith)
        (subst (λ (p : F). IsFromFnResultFrom g p xs (i + 1) n) (same q i y (omega arith) k).1 rest) j (omega arith))

    pub made : (ys : List B) → IsFromFnResult g f ys m → ys ≡ table m v
    unfolding table_from
    made [] z = rw (← z.long) refl
    made (y ∷ ys) z =
        ext_get_or y (y ∷ ys) (table m v) (z.long ∙ sym (length-table v m))
        (λ j h.
        let l : j < m = omega (arith, z.long) in
        let e : 0 + j ≡ j = omega arith in
        (rw e at (made_at (y ∷ ys) y 0 m (omega arith) z.each j l)) ∙ sym (get_or-table v m j y l))
