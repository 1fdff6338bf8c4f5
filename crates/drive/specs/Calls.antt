-- The calls as document 01's plain course has them, and what is handed on from call to call.
use Rattle.std.specs.Prelude.{ℕ, List}
use Rattle.model.specs.Course.{Call, publishing, running, asking, restarting, Configuration}
use Rattle.drive.specs.declared.Call.{Call as DrivenCall}
use Rattle.drive.specs.declared.Call.TheVariants.{Publish, Run, Room, Restart}
use Rattle.drive.specs.declared.Driven.{Driven}

abbrev pub call_of : DrivenCall → Call
call_of (Publish position) = publishing position
call_of (Run budget) = running budget
call_of Room = asking
call_of Restart = restarting

abbrev pub configuration : Driven → List ℕ → Configuration
configuration driven frame = record { state = driven.state; frame = frame; sum = driven.sum }
