-- What the promises decide: two results of a public function that both satisfy its promise are equal, whatever the input.
use Rattle.std.specs.Prelude.{◌≡◌, ℕ, Bool, List, Result}
use Rattle.protocol.specs.declared.Entry.{Entry}
use Rattle.rules.specs.Decided.{decided}
use Rattle.scenario.specs.Format.{read_into, whole, entries_of}
use Rattle.scenario.specs.Report.{report_of, Reported}
use Rattle.scenario.specs.declared.Reading.{Reading}
use Rattle.scenario.specs.declared.ShortBuffer.{ShortBuffer}

-- a report's result, and what the lent bytes hold
pub report_decided : (t old : List ℕ) (x y : Result ℕ ShortBuffer) (a b : List ℕ)
    → Reported (report_of t) old x a → Reported (report_of t) old y b → x ≡ y
report_decided t old x y a b p q = decided p.result q.result

pub bytes_decided : (t old : List ℕ) (x y : Result ℕ ShortBuffer) (a b : List ℕ)
    → Reported (report_of t) old x a → Reported (report_of t) old y b → a ≡ b
bytes_decided t old x y a b p q = decided p.bytes q.bytes

-- what reading gives, and what the two lent lists hold
pub read_decided : (hs ns t : List ℕ) (x y : Reading)
    → x ≡ (read_into hs ns t).reading → y ≡ (read_into hs ns t).reading → x ≡ y
read_decided hs ns t x y = decided

pub homes_decided : (hs ns t x y : List ℕ) → x ≡ (read_into hs ns t).homes → y ≡ (read_into hs ns t).homes → x ≡ y
homes_decided hs ns t x y = decided

pub numbers_decided : (hs ns t x y : List ℕ) → x ≡ (read_into hs ns t).numbers → y ≡ (read_into hs ns t).numbers → x ≡ y
numbers_decided hs ns t x y = decided

pub whole_decided : (m : Reading) (x y : Bool) → x ≡ whole m.want → y ≡ whole m.want → x ≡ y
whole_decided m x y = decided

pub entries_decided : (hs : List ℕ) (x y : List Entry) → x ≡ entries_of hs → y ≡ entries_of hs → x ≡ y
entries_decided hs x y = decided
