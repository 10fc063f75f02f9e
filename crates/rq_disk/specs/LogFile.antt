-- A log in a file, by what it held at first and its calls since, the newest first.
use Rattle.std.specs.Prelude.{◌≡◌, ◌⊎◌, ℕ, ◌+◌, ◌^◌, ◌≤◌, ◌==◌, min, List, [], ◌∷◌, ◌++◌, length, take, drop, refl, Bool, true, ◌&&◌}
use Rattle.std.proofs.Common.{inl, inr, sym, ap, arith}
use Rattle.rq_disk.specs.FileCalls.{FileCall, HasErred, has_failed, after_sync, after_sync_now}
use Rattle.rq_disk.specs.FileCalls.FileCall.{Gave, Denied, Took, Tried, Cut, Uncut, Replaced, Unreplaced, Synced, Missed}
use Rattle.rq_disk.specs.Device.{IsCutBetween, LogAsk}
use Rattle.std.proofs.Math.Seq.{take-length}

-- what it held at first, or what it was replaced by, and what was appended, so far as it was not cut
abbrev pub log_bytes : List ℕ → List FileCall → List ℕ
log_bytes held [] = held
log_bytes held (Gave at bytes ∷ calls) = log_bytes held calls
log_bytes held (Denied at ∷ calls) = log_bytes held calls
log_bytes held (Took at bytes ∷ calls) = log_bytes held calls ++ bytes
log_bytes held (Tried at bytes ∷ calls) = log_bytes held calls
log_bytes held (Cut len ∷ calls) = take len (log_bytes held calls)
log_bytes held (Uncut len ∷ calls) = log_bytes held calls
log_bytes held (Replaced bytes ∷ calls) = bytes
log_bytes held (Unreplaced bytes ∷ calls) = log_bytes held calls
log_bytes held (Synced ∷ calls) = log_bytes held calls
log_bytes held (Missed ∷ calls) = log_bytes held calls

-- What a crash may leave. It is what was there at the last force, or at an append since, or one that failed, with the first few
-- of its bytes. Or, behind a cut, made or not, it is as much as that leaves, or more. Or it is what the log was replaced by. A
-- force behind a call that failed is none.
abbrev pub log_may_leave : List ℕ → List FileCall → List ℕ → Type 0
log_may_leave held [] c = c ≡ held
log_may_leave held (Gave at bytes ∷ calls) c = log_may_leave held calls c
log_may_leave held (Denied at ∷ calls) c = log_may_leave held calls c
log_may_leave held (Took at bytes ∷ calls) c =
    log_may_leave held calls c ⊎ ((n : ℕ) × (c ≡ log_bytes held calls ++ take n bytes))
log_may_leave held (Tried at bytes ∷ calls) c =
    log_may_leave held calls c ⊎ ((n : ℕ) × (c ≡ log_bytes held calls ++ take n bytes))
log_may_leave held (Cut len ∷ calls) c = log_may_leave held calls c ⊎ IsCutBetween (log_bytes held calls) len c
log_may_leave held (Uncut len ∷ calls) c = log_may_leave held calls c ⊎ IsCutBetween (log_bytes held calls) len c
log_may_leave held (Replaced bytes ∷ calls) c = c ≡ bytes
log_may_leave held (Unreplaced bytes ∷ calls) c = log_may_leave held calls c ⊎ (c ≡ bytes)
log_may_leave held (Synced ∷ calls) c =
    after_sync (has_failed calls) (log_may_leave held calls c) (c ≡ log_bytes held calls)
log_may_leave held (Missed ∷ calls) c = log_may_leave held calls c

-- where a file ends that was so long at first
abbrev pub end_of : ℕ → List FileCall → ℕ
end_of first [] = first
end_of first (Gave at bytes ∷ calls) = end_of first calls
end_of first (Denied at ∷ calls) = end_of first calls
end_of first (Took at bytes ∷ calls) = end_of first calls + length bytes
end_of first (Tried at bytes ∷ calls) = end_of first calls
end_of first (Cut len ∷ calls) = min len (end_of first calls)
end_of first (Uncut len ∷ calls) = end_of first calls
end_of first (Replaced bytes ∷ calls) = length bytes
end_of first (Unreplaced bytes ∷ calls) = end_of first calls
end_of first (Synced ∷ calls) = end_of first calls
end_of first (Missed ∷ calls) = end_of first calls

-- each write of such a file began at its end
abbrev pub writes_at_end : ℕ → List FileCall → Bool
writes_at_end first [] = true
writes_at_end first (Gave at bytes ∷ calls) = writes_at_end first calls
writes_at_end first (Denied at ∷ calls) = writes_at_end first calls
writes_at_end first (Took at bytes ∷ calls) = (at == end_of first calls) && writes_at_end first calls
writes_at_end first (Tried at bytes ∷ calls) = (at == end_of first calls) && writes_at_end first calls
writes_at_end first (Cut len ∷ calls) = writes_at_end first calls
writes_at_end first (Uncut len ∷ calls) = writes_at_end first calls
writes_at_end first (Replaced bytes ∷ calls) = writes_at_end first calls
writes_at_end first (Unreplaced bytes ∷ calls) = writes_at_end first calls
writes_at_end first (Synced ∷ calls) = writes_at_end first calls
writes_at_end first (Missed ∷ calls) = writes_at_end first calls

-- it was as long as was told, and each read gave what was there
abbrev pub LogAgrees : List ℕ → ℕ → List FileCall → Type 0
LogAgrees held first [] = length held ≡ first
LogAgrees held first (Gave at bytes ∷ calls) =
    (bytes ≡ take (length bytes) (drop at (log_bytes held calls))) × LogAgrees held first calls
LogAgrees held first (Denied at ∷ calls) = LogAgrees held first calls
LogAgrees held first (Took at bytes ∷ calls) = LogAgrees held first calls
LogAgrees held first (Tried at bytes ∷ calls) = LogAgrees held first calls
LogAgrees held first (Cut len ∷ calls) = LogAgrees held first calls
LogAgrees held first (Uncut len ∷ calls) = LogAgrees held first calls
LogAgrees held first (Replaced bytes ∷ calls) = LogAgrees held first calls
LogAgrees held first (Unreplaced bytes ∷ calls) = LogAgrees held first calls
LogAgrees held first (Synced ∷ calls) = LogAgrees held first calls
LogAgrees held first (Missed ∷ calls) = LogAgrees held first calls

-- what a crash may have left at some moment from t on: before the newest k of the calls
abbrev pub LogLeftSince : List ℕ → List FileCall → ℕ → List ℕ → Type 0
LogLeftSince held calls t c = (k : ℕ) × (k + t ≤ length calls) × log_may_leave held (drop k calls) c

-- Why such a file's device that ends there may err. It is over, its own call of the file failed, or the bytes would end beyond
-- its last place.
abbrev pub LogErred : ℕ → LogAsk → (old new : List FileCall) → Type 0
LogErred end (LogAsk.Reads at) old new = HasErred (Denied at) old new
LogErred end (LogAsk.Appends bytes) old new =
    ((2 ^ 64 ≤ end + length bytes) × (new ≡ old)) ⊎ HasErred (Tried end bytes) old new
LogErred end LogAsk.Forces old new = HasErred Missed old new
LogErred end (LogAsk.Cuts len) old new = HasErred (Uncut len) old new ⊎ (new ≡ Missed ∷ Cut len ∷ old)
LogErred end (LogAsk.Replaces bytes) old new = HasErred (Unreplaced bytes) old new

-- a crash may leave what reads give
pub log_all : (held : List ℕ) (calls : List FileCall) → log_may_leave held calls (log_bytes held calls)
log_all held [] = refl
log_all held (Gave at bytes ∷ calls) = log_all held calls
log_all held (Denied at ∷ calls) = log_all held calls
log_all held (Took at bytes ∷ calls) =
    inr (length bytes, ap (λ (l : List ℕ). log_bytes held calls ++ l) (sym (take-length bytes)))
log_all held (Tried at bytes ∷ calls) = inl (log_all held calls)
log_all held (Cut len ∷ calls) = inr (len, omega arith, refl)
log_all held (Uncut len ∷ calls) = inl (log_all held calls)
log_all held (Replaced bytes ∷ calls) = refl
log_all held (Unreplaced bytes ∷ calls) = inl (log_all held calls)
log_all held (Synced ∷ calls) =
    after_sync_now (has_failed calls) (log_may_leave held calls (log_bytes held calls))
    (log_bytes held calls ≡ log_bytes held calls) (log_all held calls) refl
log_all held (Missed ∷ calls) = log_all held calls
