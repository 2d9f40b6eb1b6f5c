use Rattle.std.proofs.Common.{◌^◌, ◌≤◌, map, get_or, pos, ◌-ℤ◌, nat_abs}
use Rattle.packages.specs.declared.reading.Reading.TheVariants.{Empty}
use Rattle.packages.specs.Readings.{gross_of, tare_of}
use Rattle.sheet.specs.Tare.{label_by}
use Rattle.sheet.proofs.Ranges.{Spans}
use Rattle.sheet.proofs.settling.ranges.Given as goal

abbrev pub invariant-loop-held : goal.invariant-loop-held
invariant-loop-held g l =
    let first = get_or (map g.P.Package.reading l.places) 0 Empty in
    let rest = map g.P.Package.reading l.rest in record {
      errors_met : Spans (λ row. pos (gross_of row) -ℤ pos (tare_of row) -ℤ pos (label_by l.label row)) first rest l.held-index l.errors.least l.errors.most;
      tares_met : Spans (λ row. pos (tare_of row)) first rest l.held-index l.tares.least l.tares.most;
      least : nat_abs l.errors.least ≤ 2 ^ 33;
      most : nat_abs l.errors.most ≤ 2 ^ 33;
    }
