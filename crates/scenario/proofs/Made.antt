-- An array that the library makes by a closure which changes nothing is the table of what the closure computes.
use Rattle.std.specs.Prelude.{slice_index_or}
use Rattle.std.specs.Array.{IsFromFnResult, IsFromFnResultFrom}
use Rattle.std.specs.Fn.{Called}
use Rattle.std.proofs.Common.{◌≡◌, ℕ, zero, suc, ◌+◌, ◌<◌, List, sym, ◌∙◌, arith, ext_get_or}
use denote.Param.Members.{Mut}
use Rattle.protocol.specs.Lists.{table}
use Rattle.laws.specs.Lists.{length-table, get_or-table}

module _ {F B : Type 0} (g : Mut F (ℕ × Unit {0}) B) (f : F) (h : ℕ → B) (d : B)
    (pure : (i : ℕ) (y : B) (q : F) → Called g f (i, tt) y q → (q ≡ f) × (y ≡ h i)) where
  -- the k-th of the n elements from place i on
  made_at : (ys : List B) (i n k j : ℕ) → j ≡ i + k → k < n → IsFromFnResultFrom g f ys i n → slice_index_or ys j d ≡ h j
  made_at ys i zero k j e l m = absurd (omega arith)
  made_at ys i (suc n) zero j e l m = let w : j ≡ i = omega arith in rw w (m.2.1 d ∙ (pure i m.1 m.0 m.3).1)
  made_at ys i (suc n) (suc k) j e l m =
      made_at ys (i + 1) n k j (omega arith) (omega arith) (rw (pure i m.1 m.0 m.3).0 at m.4)

  pub made_table : (ys : List B) (n : ℕ) → IsFromFnResult g f ys n → ys ≡ table n h
  made_table ys n m =
      ext_get_or d ys (table n h) (m.long ∙ sym (length-table h n))
      (λ j l.
      made_at ys 0 n j j (omega arith) (omega (arith, m.long)) m.each
      ∙ sym (get_or-table h n j d (omega (arith, m.long))))
