-- One call more of a file of a log.
use Rattle.std.proofs.Common.{◌≡◌, ◌⊎◌, inl, inr, refl, ℕ, ◌-◌, ◌==◌, ◌&&◌, Bool, true, false, min, List, [], ◌∷◌, length, sym, ◌∙◌, ap, subst, arith, length-append}
use Rattle.std.proofs.lemmas.List.{length-take}
use Rattle.std.proofs.lemmas.Bool.Decides.{nat_tests}
use Rattle.rq_disk.specs.Device.{Appended, Elapses, ElapsesThrough, IsCutBetween, Stays}
use Rattle.rq_disk.specs.FileCalls.{FileCall, has_failed, after_sync}
use Rattle.rq_disk.specs.FileCalls.FileCall.{Gave, Denied, Took, Tried, Cut, Uncut, Replaced, Unreplaced, Synced, Missed}
use Rattle.rq_disk.specs.LogFile.{log_bytes, log_may_leave, end_of, writes_at_end, LogAgrees, LogLeftSince, log_all}
use Rattle.rq_disk.proofs.SinceCalls.{goes_on}

-- an honest file was as long as was told
was_so_long : (held : List ℕ) (first : ℕ) (calls : List FileCall) → LogAgrees held first calls → length held ≡ first
was_so_long held first [] agree = agree
was_so_long held first (Gave at bytes ∷ calls) agree = was_so_long held first calls agree.1
was_so_long held first (_ ∷ calls) agree = was_so_long held first calls agree

-- it has as many bytes as end there
is_so_long : (held : List ℕ) (calls : List FileCall) → length (log_bytes held calls) ≡ end_of (length held) calls
is_so_long held [] = refl
is_so_long held (Took at bytes ∷ calls) = omega (arith, length-append (log_bytes held calls) bytes, is_so_long held calls)
is_so_long held (Cut len ∷ calls) = length-take len (log_bytes held calls) ∙ ap (min len) (is_so_long held calls)
is_so_long held (Replaced bytes ∷ calls) = refl
is_so_long held (_ ∷ calls) = is_so_long held calls

module _ (calls later : List FileCall) (at : ℕ) (bytes : List ℕ) where
  begins_at_end : (first : ℕ) → at ≡ end_of first calls → writes_at_end first calls ≡ true → ((at == end_of first calls) && writes_at_end first calls) ≡ true
  begins_at_end first here rest =
      let begins : (at == end_of first calls) ≡ true = grind (arith, nat_tests, here) in
      ap (λ (b : Bool). b && writes_at_end first calls) begins ∙ rest

  pub tried_at_end : later ≡ Tried at bytes ∷ calls → (first : ℕ) → at ≡ end_of first calls → writes_at_end first calls ≡ true → writes_at_end first later ≡ true
  tried_at_end is first here rest = ap (writes_at_end first) is ∙ begins_at_end first here rest

module _ (held : List ℕ) (calls later : List FileCall) where
  pub log_time : (call : FileCall) → later ≡ call ∷ calls → Elapses (length calls) (length later) (LogLeftSince held calls) (LogLeftSince held later) (log_may_leave held later)
  log_time call is = goes_on (log_may_leave held) calls later call is

  -- a read that failed changes nothing
  pub denied_stays : (at : ℕ) → later ≡ Denied at ∷ calls
      → Stays (log_bytes held calls) (log_bytes held later) (log_may_leave held calls) (log_may_leave held later)
  denied_stays at is = record {
    reads = ap (log_bytes held) is;
    left = λ c may. subst (λ (cs : List FileCall). log_may_leave held cs c) is may;
    still_left = λ c may. subst (λ (cs : List FileCall). log_may_leave held cs c) (sym is) may;
  }

  module _ (at : ℕ) (bytes : List ℕ) where
    -- as many as there were
    pub gave_count : later ≡ Gave at bytes ∷ calls → (first end n most : ℕ) → end ≡ end_of first calls → n ≡ min most (end - at) → LogAgrees held first later → n ≡ min most (length (log_bytes held calls) - at)
    gave_count is first end n most grew is_n agree =
        let so_long = was_so_long held first calls (subst (LogAgrees held first) is agree).1 in
        let same : end ≡ length (log_bytes held calls) = grew ∙ ap (λ (n : ℕ). end_of n calls) (sym so_long) ∙ sym (is_so_long held calls) in
        is_n ∙ ap (λ (e : ℕ). min most (e - at)) same

    pub took_crash : later ≡ Took at bytes ∷ calls → Appended (log_bytes held calls) bytes (log_may_leave held calls) (log_may_leave held later)
    took_crash is c may = subst (λ (cs : List FileCall). log_may_leave held cs c) is may

    pub tried_crash : later ≡ Tried at bytes ∷ calls → Appended (log_bytes held calls) bytes (log_may_leave held calls) (log_may_leave held later)
    tried_crash is c may = subst (λ (cs : List FileCall). log_may_leave held cs c) is may

  module _ (is : later ≡ Synced ∷ calls) (runs : has_failed calls ≡ false) where
    pub synced_only : (c : List ℕ) → log_may_leave held later c → c ≡ log_bytes held calls
    synced_only c may =
        let synced = subst (λ (cs : List FileCall). log_may_leave held cs c) is may in
        subst (λ (b : Bool). after_sync b (log_may_leave held calls c) (c ≡ log_bytes held calls)) runs synced

    pub synced_crash : (c : List ℕ) → log_may_leave held later c → log_may_leave held calls c
    synced_crash c may = subst (log_may_leave held calls) (sym (synced_only c may)) (log_all held calls)

-- A cut, which is a call that shortens and one that syncs, or one that fails.
module _ (held : List ℕ) (calls between : List FileCall) (len : ℕ) (call : FileCall) (is : between ≡ call ∷ calls) where
  -- behind a call alone
  pub half_time : ElapsesThrough (length calls) (length between) (LogLeftSince held calls) (LogLeftSince held between) (log_may_leave held between) (IsCutBetween (log_bytes held calls) len)
  half_time =
      let e = log_time held calls between call is in
      record {
        later = e.later;
        nothing_else = λ t c le since. elim (e.nothing_else t c le since) [ inl was ↦ inl was | inr now ↦ inr (inl now) ];
        keeps = e.keeps;
      }

  -- behind two, where the first is a cut
  pub cut_time : (later : List FileCall) (next : FileCall) → call ≡ Cut len → later ≡ next ∷ between
      → ElapsesThrough (length calls) (length later) (LogLeftSince held calls) (LogLeftSince held later) (log_may_leave held later) (IsCutBetween (log_bytes held calls) len)
  cut_time later next cuts then =
      let e = log_time held calls between call is in
      let f = log_time held between later next then in
      let up = e.later in
      let half : (c : List ℕ) → log_may_leave held between c → log_may_leave held calls c ⊎ IsCutBetween (log_bytes held calls) len c =
      λ c may. subst (λ (cs : List FileCall). log_may_leave held cs c) (is ∙ ap (λ (it : FileCall). it ∷ calls) cuts) may in
      record {
        later = omega (arith, up, f.later);
        nothing_else = λ t c le since. elim (f.nothing_else t c (omega (arith, le, up)) since) [
          | inl was ↦ elim (e.nothing_else t c le was) [
            | inl past ↦ inl past
            | inr now ↦ elim (half c now) [
              | inl old ↦ inl (0, omega (arith, le), old)
              | inr inside ↦ inr (inr inside)
            ]
          ]
          | inr now ↦ inr (inl now)
        ];
        keeps = λ t c le past. f.keeps t c (omega (arith, le, up)) (e.keeps t c le past);
      }
