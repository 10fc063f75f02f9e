-- What a note without bytes tells.
use Rattle.rq_disk.specs.FileCalls.{FileCall}
use Rattle.rq_disk.specs.declared.noted.Note.{Note}
use Rattle.rq_disk.specs.declared.noted.Note.TheVariants as notes

abbrev pub call_of : Note → FileCall
call_of (notes.Gave at bytes) = FileCall.Gave at bytes.value
call_of (notes.Denied at) = FileCall.Denied at
call_of (notes.Took at bytes) = FileCall.Took at bytes.value
call_of (notes.Tried at bytes) = FileCall.Tried at bytes.value
call_of (notes.Cut len) = FileCall.Cut len
call_of (notes.Uncut len) = FileCall.Uncut len
call_of (notes.Replaced bytes) = FileCall.Replaced bytes.value
call_of (notes.Unreplaced bytes) = FileCall.Unreplaced bytes.value
call_of notes.Synced = FileCall.Synced
call_of notes.Missed = FileCall.Missed
