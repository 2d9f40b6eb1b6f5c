use Rattle.std.proofs.Common.{◌^◌, ◌<◌, rules}
use Rattle.sheet.proofs.Errors.{error_is}
use Rattle.sheet.proofs.closing.package_error.Goals as goal

pub returns : goal.returns
returns c =
    let hg : c.gross_of.result < 2 ^ 32 = search rules in
    let hl : c.label_of-label.result < 2 ^ 32 = search rules in
    let ha : c.args.average < 2 ^ 32 = search rules in
    let hw : c.args.lot.allowance < 2 ^ 32 = search rules in
    error_is c.args.lot c.args.average c.args.reading
    c.gross_of.result c.label_of-label.result c.from.result c.from-2.result c.from-3.result c.from-4.result c.from-5.result
    c.gross_of.ensures c.label_of-label.ensures c.from-3.ensures c.from-4.ensures c.from-5.ensures c.from.ensures c.from-2.ensures hg hl ha hw
