-- A turn puts what it reads after what came before it.
use Rattle.std.proofs.Common.{◌≡◌, ℕ, ◌+◌, ◌≤◌, List, ◌++◌, length, take, Option, None, Some, subst, sym, ap, ◌∙◌, append_assoc, rules}
use Rattle.std.specs.Io.KnownBytes.{Consumes}
use Rattle.std.proofs.Math.Seq.{take-append-add}
use Rattle.std.proofs.lemmas.List.{places, length-take-le, take-append-le}
use Rattle.shared.proofs.read_full.Goals as goal

-- of a list whose first `at` are kept and followed by part, at + n are those and n of part
kept_then : (at n : ℕ) (s part rest : List ℕ) → at ≤ length s → n ≤ length part
    → take (at + n) (take at s ++ (part ++ rest)) ≡ take at s ++ take n part
kept_then at n s part rest h fits =
    subst (λ k. take (k + n) (take at s ++ (part ++ rest)) ≡ take at s ++ take n (part ++ rest)) (length-take-le at s h) (take-append-add (take at s) (part ++ rest) n)
    ∙ ap (λ l. take at s ++ l) (take-append-le n part rest fits)

-- what two reads give, one after the other, is what a reader has lost
then_lost : (a b c : Option (List ℕ)) (x y : List ℕ) → Consumes a b x → Consumes b c y → Consumes a c (x ++ y)
then_lost None b c x y p q = tt
then_lost (Some s) None c x y p q = elim p [ ]
then_lost (Some s) (Some t) None x y p q = elim q [ ]
then_lost (Some s) (Some t) (Some u) x y p q = p ∙ ap (λ l. x ++ l) q ∙ sym (append_assoc x y u)

pub loop-n-preserved : goal.loop-n-preserved
loop-n-preserved g c =
    let before = c.loop-n.invariant in
    let read = c.in-Ok-1-to-max.ensures in
    record {
      within = search (rules, places);
      came = subst (Consumes _ _) (sym (kept_then c.loop-n.done c.in-Ok-1-to-max.n c.loop-n.space c.read.new.buf _ before.within read.bound.0)) (then_lost _ _ _ _ _ before.came read.bytes.0);
    }
