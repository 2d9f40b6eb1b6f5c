use Rattle.std.proofs.Common.{take}
use Rattle.std.specs.Fmt.{HasWritten, IsPlainFormatter}
use Rattle.findings.specs.Reports.{errors_text}
use Rattle.findings.proofs.reporting.ErrorsLineDisplay.fmt.Given as goal

abbrev pub invariant-loop-error : goal.invariant-loop-error
invariant-loop-error g l = IsPlainFormatter l.fn.f → HasWritten g.W.Write.write_str_gives l.fn.f (errors_text (take l.error-index l.error-items)) l.f
