-- What each call does, by the questions in their order.
use Rattle.std.specs.Prelude.{ℕ, Bool, true, false, ◌&&◌, List, length, Some, None, Option, if◌then◌else◌, nat_le, nat_lt}
use Rattle.packages.specs.declared.reading.Reading.{Reading}
use Rattle.sheet.specs.declared.call.Call.{Call}
use Rattle.sheet.specs.declared.call.Call.TheVariants.{Weigh, Correct, Strike, Open, Settle, Reopen}
use Rattle.sheet.specs.declared.call.Phase.{Phase}
use Rattle.sheet.specs.declared.call.Phase.TheVariants as phase
use Rattle.sheet.specs.declared.refusal.Refusal.TheVariants as why
use Rattle.sheet.specs.Steps.{Outcome, refused, label_fits, weighed, corrected, struck, opened, held_at, placing}
use Rattle.sheet.specs.Tare.{settle, reopen}
use Rattle.sheet.specs.Terms.{Terms}

abbrev pub place_of : Call → Option ℕ
place_of (Weigh p g l) = Some p
place_of (Correct p g l) = Some p
place_of (Strike p) = Some p
place_of (Open p tare) = Some p
place_of Settle = None
place_of Reopen = None

-- a place that is given is one of the sample
abbrev pub placed : ℕ → Option ℕ → Bool
placed sample None = true
placed sample (Some p) = nat_le 1 p && nat_le p sample

-- weighing and correcting give a weight up to 999999, and a label where one belongs
abbrev pub weighable : Bool → Call → Bool
weighable random (Weigh p g l) = nat_le g 999999 && label_fits random l
weighable random (Correct p g l) = nat_le g 999999 && label_fits random l
weighable random (Strike p) = true
weighable random (Open p tare) = true
weighable random Settle = true
weighable random Reopen = true

-- the places of the settled tare are frozen
abbrev pub frozen : Phase → Option ℕ → Bool
frozen phase.Unsettled p = false
frozen (phase.Settled total average) None = false
frozen (phase.Settled total average) (Some p) = nat_le p total

-- what a call does once its questions on place, weight and freezing are answered
abbrev pub performed : Terms → Phase → List Reading → Call → Outcome
performed t ph rows (Weigh p g l) = placing t.labeled ph rows p (weighed (held_at rows p) g l)
performed t ph rows (Correct p g l) = placing t.labeled ph rows p (corrected (held_at rows p) g l)
performed t ph rows (Strike p) = placing t.labeled ph rows p (struck (held_at rows p))
performed t ph rows (Open p tare) = placing t.labeled ph rows p (opened (held_at rows p) tare)
performed t ph rows Settle = settle t ph rows
performed t ph rows Reopen = reopen ph rows

abbrev pub thawed : Terms → Phase → List Reading → Call → Outcome
thawed t ph rows call = if frozen ph (place_of call) then refused why.Frozen else performed t ph rows call

abbrev pub step : Terms → Phase → List Reading → Call → Outcome
step t ph rows call =
    if nat_lt (length rows) t.sample then refused why.FewPlaces else
    (if placed t.sample (place_of call) then (if weighable t.random call then thawed t ph rows call else refused why.Unweighable) else refused why.NoPlace)
