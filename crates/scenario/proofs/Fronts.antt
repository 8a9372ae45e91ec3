-- What one pass over a text finds at a place: a decimal digit by digit, and a line value by value.
use Rattle.std.specs.Prelude.{slice_index_or, Some}
use Rattle.std.proofs.Common.{◌≡◌, ℕ, ◌+◌, ◌-◌, ◌*◌, ◌<◌, ◌≤◌, true, List, [], ◌∷◌, ◌++◌, map, length, take, drop, set, sym, refl, ap, ◌∙◌, append_assoc, append-nil, add-one, arith, length-set, take_all, drop-cons, drop-drop}
use Rattle.std.proofs.lemmas.Option.{same_Some}
use Rattle.text.specs.Decimal.{goes_on, number_of, digits}
use Rattle.text.specs.Line.{before, parts, starts}
use Rattle.text.specs.Laws.{went_on, digits_low, digits_more, digits_lacks, lacks_both, read_back, parts_last, parts_then, key_starts, fields_seven, value_more}
use Rattle.scenario.specs.Front.{Front, NumberAt, FieldsAt}

-- ---- one thing after another

-- l, and m after it
pub front_then : {s : List ℕ} {at i j : ℕ} {l m : List ℕ} → Front s at l i → Front s i m j → Front s at (l ++ m) j
front_then {s} {at} {i} {j} {l} {m} x y = record {
  split = x.split ∙ ap (λ (k : List ℕ). l ++ k) y.split ∙ sym (append_assoc l m (drop j s));
}

-- a key that the rest of the text starts with
pub front_key : (s key : List ℕ) (at : ℕ) → starts key (drop at s) ≡ true → Front s at key (at + length key)
front_key s key at h = record {
  split = sym (key_starts key (drop at s) h) ∙ ap (λ (m : List ℕ). key ++ m) (drop-drop (length key) at s);
}

-- ---- what stands at a place

-- one byte
front_byte : (s : List ℕ) (i b : ℕ) → i < length s → slice_index_or s i 0 ≡ b → Front s i (b ∷ []) (i + 1)
front_byte s i b h e = record { split = rw (add-one i, drop-cons s i 0 h, e) }

-- the decimal of v stands from `at` to i
pub record Digits (s : List ℕ) (at v i : ℕ) : Type 0 where
  pub small : v < 4294967296
  pub front : Front s at (digits v) i

-- a digit alone
pub digit-first : (s : List ℕ) (at v x : ℕ) → at < length s → slice_index_or s at 0 ≡ x → Some v ≡ goes_on 0 (x ∷ [])
    → Digits s at v (at + 1)
unfolding goes_on
digit-first s at v x h b e =
    let d = went_on 0 x v [] (sym e) in
    let w : x ≡ 48 + v = omega (arith, same_Some _ _ d.rest, d.low) in
    record {
      small = omega (arith, d.high);
      front = rw (digits_low v (omega (arith, d.high))) (front_byte s at (48 + v) h (b ∙ w));
    }

module _ {s : List ℕ} {at v i : ℕ} (r : Digits s at v i) (h : i < length s) where
  -- one digit more
  pub digit-next : (w : ℕ) → 0 < v → Some w ≡ goes_on v (slice_index_or s i 0 ∷ []) → Digits s at w (i + 1)
  unfolding goes_on
  digit-next w p e =
      let d = went_on v (slice_index_or s i 0) w [] (sym e) in
      let f : w ≡ v * 10 + (slice_index_or s i 0 - 48) = sym (same_Some _ _ d.rest) in
      record {
        small = omega (arith, d.fits);
        front =
            rw (f, digits_more v (slice_index_or s i 0) p d.low d.high d.fits)
            (front_then r.front (front_byte s i (slice_index_or s i 0) h refl));
      }

-- ---- seven values at a place

-- a line stands from `at` to i whose values are the first k, whatever comes after it
pub record Begun (s : List ℕ) (at : ℕ) (v : List ℕ) (k i : ℕ) : Type 0 where
  pub few : k ≤ 6
  pub size : length v ≡ 7
  pub line : List ℕ
  pub front : Front s at line i
  pub lacks : before 10 line ≡ length line
  pub so_far : (m : List ℕ) → map number_of (parts 44 (line ++ m)) ≡ map Some (take k v) ++ map number_of (parts 44 m)

-- nothing
pub line_begun : (s : List ℕ) (at : ℕ) (v : List ℕ) → length v ≡ 7 → Begun s at v 0 at
unfolding before
line_begun s at v h = record {
  few = omega arith;
  size = h;
  line = [];
  front = record { split = refl };
  lacks = refl;
  so_far = λ m. refl;
}

module _ {s v : List ℕ} {at k i : ℕ} (r : Begun s at v k i) (x : ℕ) where
  -- the numbers of the line with x after it, where the parts that x begins are x and ps
  begun_with_lem : (m : List ℕ) (ps : List (List ℕ)) → x < 4294967296 → parts 44 m ≡ digits x ∷ ps
      → map number_of (parts 44 (r.line ++ m)) ≡ map Some (take (k + 1) (set v k x)) ++ map number_of ps
  begun_with_lem m ps h e =
      r.so_far m
      ∙ rw (e, read_back x h)
      (value_more v k x (map number_of ps) (omega (arith, r.few, r.size)))

  -- a value with a comma after it
  pub begun_more : {j : ℕ} → NumberAt s i 44 x j → k < 6 → Begun s at (set v k x) (k + 1) j
  unfolding before
  begun_more {j} f l = record {
    few = omega arith;
    size = length-set v k x ∙ r.size;
    line = r.line ++ (digits x ++ (44 ∷ []));
    front = front_then r.front f.front;
    lacks =
        lacks_both 10 r.line (digits x ++ (44 ∷ [])) r.lacks
        (lacks_both 10 (digits x) (44 ∷ []) (digits_lacks 10 x (omega arith)) refl);
    so_far = λ m.
        rw (append_assoc r.line (digits x ++ (44 ∷ [])) m, append_assoc (digits x) (44 ∷ []) m)
        (begun_with_lem (digits x ++ (44 ∷ m)) (parts 44 m) f.small
        (parts_then 44 (digits x) m (digits_lacks 44 x (omega arith))));
  }

  -- the last, with a line feed after it
  pub begun_all : {j : ℕ} → NumberAt s i 10 x j → k ≡ 6 → FieldsAt s at (set v 6 x) j
  begun_all {j} f l = record {
    line = r.line ++ digits x;
    inside = f.inside;
    front = rw (append_assoc r.line (digits x) (10 ∷ [])) (front_then r.front f.front);
    lacks = lacks_both 10 r.line (digits x) r.lacks (digits_lacks 10 x (omega arith));
    fields =
        sym
        (fields_seven (r.line ++ digits x) (set v 6 x) (length-set v 6 x ∙ r.size)
        (begun_with_lem (digits x) [] f.small (parts_last 44 (digits x) (digits_lacks 44 x (omega arith)))
        ∙ append-nil (map Some (take (k + 1) (set v k x)))
        ∙ rw l (ap (map Some) (take_all 7 (set v 6 x) (omega (arith, length-set v 6 x, r.size))))));
  }
