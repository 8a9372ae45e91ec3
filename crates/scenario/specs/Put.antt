-- What the printer holds after it was given more, the lines of one site, and the whole report of a run.
use Rattle.std.specs.Prelude.{ℕ, ◌+◌, ◌-◌, List, ◌++◌, length, take}
use Rattle.std.proofs.lemmas.List.Edits.{sets}
use Rattle.protocol.specs.State.{log_of}
use Rattle.protocol.specs.declared.Row.{Row}
use Rattle.protocol.specs.declared.Place.{Place}
use Rattle.protocol.specs.declared.State.{State}
use Rattle.text.specs.Written.{bytes}
use Rattle.scenario.specs.declared.printer.Printer.{Printer}
use Rattle.scenario.specs.Report.{line_of, list_of, answer_lines, site_lines}

-- what of d has a place in the bytes of a printer, after what it has printed
abbrev pub fitting : Printer → List ℕ → List ℕ
fitting p d = take (length p.out.now - p.at) d

-- the printer after it has printed d, as far as d has a place
unfoldable pub printed : Printer → List ℕ → Printer
printed p d = record {
  out = record { ref_ptr = p.out.ref_ptr; ghost_name = p.out.ghost_name; now = sets p.out.now p.at (fitting p d) };
  at = p.at + length (fitting p d);
}

-- what one site adds to the report: the statuses of its first `count` transactions, and its log
unfoldable pub site_of : ℕ → Row → Place → List ℕ
site_of count r p =
    list_of (bytes "status=") (take count r.status) ++ list_of (bytes "log=") (log_of p)

-- the report of a run with the answers l that ends in the state s, with so many messages sent
unfoldable pub end_lines : List ℕ → State → ℕ → List ℕ
end_lines l s sent = answer_lines l ++ (site_lines s.sites 0 s ++ line_of (bytes "messages=") sent)
