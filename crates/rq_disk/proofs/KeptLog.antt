-- One call more joins those that a log in memory keeps.
use Rattle.std.proofs.Common.{◌<◌, ◌≡◌, ◌⊎◌, inl, inr, ℕ, ◌+◌, ◌≤◌, ◌-◌, min, List, [], ◌∷◌, ◌++◌, length, take, drop, refl, sym, ◌∙◌, ap, subst, arith, append_assoc, length-append}
use Rattle.std.proofs.lemmas.List.{append-nil, take-append-le, drop-append-le, take-append-drop, take_all, drop_all}
use Rattle.std.proofs.Math.Seq.{take-add, take-append-add}
use Rattle.std.proofs.lemmas.Bool.{cases_lt}
use Rattle.std.specs.Prelude.{Vec}
use Rattle.std.specs.declared.alloc.Global.{Global}
use Rattle.rq_disk.specs.Device.{Appended, CutOff, Elapses, ElapsesThrough}
use Rattle.rq_disk.specs.Records.{record_size, HasRecord, AreRecords, IsTorn, torn_records}
use Rattle.rq_disk.specs.Memory.{LogState, fresh_log, log_reads, MayLeave, crashed_log, after_log_call, after_log_calls, log_after, LogSince, log_seen}
use Rattle.rq_disk.specs.declared.mem_log.LogCall.{LogCall}
use Rattle.rq_disk.specs.declared.mem_log.LogCall.TheVariants.{Append, Force, Cut}
use Rattle.rq_disk.proofs.Records.{torn_is, none_behind, records-append}
use Rattle.rq_disk.proofs.KeptCalls.{elapses_to}

log_push : (s : LogState) (calls : List LogCall) (call : LogCall) → after_log_calls s (calls ++ call ∷ []) ≡ after_log_call (after_log_calls s calls) call
log_push s [] call = refl
log_push s (c ∷ calls) call = log_push (after_log_call s c) calls call

-- the log after one call more
pub log_pushed : (bytes : List ℕ) (calls later : List LogCall) (call : LogCall) → later ≡ calls ++ call ∷ [] → log_after bytes later ≡ after_log_call (log_after bytes calls) call
log_pushed bytes calls later call is = ap (log_after bytes) is ∙ log_push (fresh_log bytes) calls call

-- two runs are cut in the first, or behind it
pub cut_push : (t : LogState) (run c : List ℕ) → MayLeave (record { forced = t.forced; handed = t.handed ++ run }) c → MayLeave t c ⊎ ((k : ℕ) × (c ≡ log_reads t ++ take k run))
cut_push t run c may = elim (cases_lt (length t.handed) may.0) [
  | inl beyond ↦
      let k : ℕ = may.0 - length t.handed in
      let e : may.0 ≡ length t.handed + k = omega (arith, beyond) in
      inr (k, may.1 ∙ ap (λ (l : List ℕ). t.forced ++ l) (ap (λ (n : ℕ). take n (t.handed ++ run)) e ∙ take-append-add t.handed run k) ∙ sym (append_assoc t.forced t.handed (take k run)))
  | inr within ↦ inl (may.0, may.1 ∙ ap (λ (l : List ℕ). t.forced ++ l) (take-append-le may.0 t.handed run within))
]

-- of a log without records that are not forced a crash leaves all
pub fresh_only : (bytes c : List ℕ) → MayLeave (fresh_log bytes) c → c ≡ bytes
fresh_only bytes c may = may.1 ∙ ap (λ (l : List ℕ). bytes ++ l) (take_all may.0 [] (omega arith)) ∙ append-nil bytes

module _ (bytes : List ℕ) (calls later : List LogCall) where
  abbrev was : LogState
  was = log_after bytes calls

  pub forced_to : later ≡ calls ++ Force ∷ [] → (c : List ℕ) → MayLeave (log_after bytes later) c → c ≡ log_reads was
  forced_to is c now = fresh_only (log_reads was) c (subst (λ (u : LogState). MayLeave u c) (log_pushed bytes calls later Force is) now)

  pub fewer_logs_to : later ≡ calls ++ Force ∷ [] → (c : List ℕ) → MayLeave (log_after bytes later) c → MayLeave was c
  fewer_logs_to is c now = subst (MayLeave was) (sym (forced_to is c now)) (log_seen was)

  pub log_elapses : (call : LogCall) → later ≡ calls ++ call ∷ [] → Elapses (length calls) (length later) (LogSince bytes calls) (LogSince bytes later) (MayLeave (log_after bytes later))
  log_elapses call is = elapses_to (λ (cs : List LogCall). MayLeave (log_after bytes cs)) calls later call is

  -- a cut
  pub cut_reads : (len : ℕ) → later ≡ calls ++ Cut len ∷ [] → log_reads (log_after bytes later) ≡ take len (log_reads was)
  cut_reads len is = ap log_reads (log_pushed bytes calls later (Cut len) is) ∙ append-nil (take len (log_reads was))

  pub cut_only : (len : ℕ) → later ≡ calls ++ Cut len ∷ [] → (c : List ℕ) → MayLeave (log_after bytes later) c → c ≡ take len (log_reads was)
  cut_only len is c now = fresh_only (take len (log_reads was)) c (subst (λ (u : LogState). MayLeave u c) (log_pushed bytes calls later (Cut len) is) now)

  pub cut_crash : (len : ℕ) → later ≡ calls ++ Cut len ∷ [] → CutOff (log_reads was) len (MayLeave was) (MayLeave (log_after bytes later))
  cut_crash len is c now = inr (len, omega arith, cut_only len is c now)

  pub log_elapses_through : (call : LogCall) (inside : List ℕ → Type 0) → later ≡ calls ++ call ∷ [] → ElapsesThrough (length calls) (length later) (LogSince bytes calls) (LogSince bytes later) (MayLeave (log_after bytes later)) inside
  log_elapses_through call inside is =
      let e = log_elapses call is in
      record {
        later = e.later;
        nothing_else = λ t c le since. elim (e.nothing_else t c le since) [ inl was ↦ inl was | inr now ↦ inr (inl now) ];
        keeps = e.keeps;
      }

-- of bytes with a record at the front so many outlive, and of others none
pub torn_tail : (torn tail : ℕ) (rest : List ℕ) → ((HasRecord rest → ⊥) → rest ≡ []) → IsTorn torn tail rest
    → take tail rest ≡ take (min torn (record_size rest - 1)) rest
torn_tail torn tail rest none (inl some) = ap (λ (n : ℕ). take n rest) some.1
torn_tail torn tail rest none (inr nothing) =
    let empty = none nothing in
    ap (take tail) empty ∙ take_all tail [] (omega arith) ∙ sym (ap (take (min torn (record_size rest - 1))) empty ∙ take_all (min torn (record_size rest - 1)) [] (omega arith))

-- the bytes of a log in memory are those that its calls made of what it had at first
pub record Kept (start bytes : List ℕ) (forced : ℕ) (calls : List LogCall) : Type 0 where
  pub within : forced ≤ length bytes
  pub forced_bytes : take forced bytes ≡ (log_after start calls).forced
  pub handed_bytes : drop forced bytes ≡ (log_after start calls).handed
  pub whole : (n : ℕ) × AreRecords n (drop forced bytes)

-- where all is forced
pub all_kept : (start bytes : List ℕ) (forced : ℕ) (calls : List LogCall) → forced ≡ length bytes → log_after start calls ≡ fresh_log bytes → Kept start bytes forced calls
all_kept start bytes forced calls all is =
    let none : drop forced bytes ≡ [] = drop_all forced bytes (omega (arith, all)) in
    record {
      within = omega (arith, all);
      forced_bytes = take_all forced bytes (omega (arith, all)) ∙ sym (ap (λ (s : LogState). s.forced) is);
      handed_bytes = none ∙ sym (ap (λ (s : LogState). s.handed) is);
      whole = (0, none);
    }

module _ (start bytes : List ℕ) (forced : ℕ) (calls : List LogCall) (kept : Kept start bytes forced calls) where
  abbrev now : LogState
  now = log_after start calls

  pub kept_reads : log_reads now ≡ bytes
  kept_reads = ap (λ (l : List ℕ). l ++ now.handed) (sym kept.forced_bytes) ∙ ap (λ (l : List ℕ). take forced bytes ++ l) (sym kept.handed_bytes) ∙ take-append-drop forced bytes

  -- the first records of those that are not forced and some bytes of the next, where they end in the bytes
  pub kept_crash : (keep torn end tail count : ℕ) → end ≤ length (drop forced bytes) → AreRecords count (take end (drop forced bytes)) → count ≤ keep
      → (count < keep → HasRecord (drop end (drop forced bytes)) → ⊥) → IsTorn torn tail (drop end (drop forced bytes))
      → take (forced + (end + tail)) bytes ≡ crashed_log keep torn now
  kept_crash keep torn end tail count within whole le last is_torn =
      take-add forced (end + tail) bytes ∙ ap (λ (l : List ℕ). take forced bytes ++ l) (torn_is count kept.whole.0 keep end tail torn (drop forced bytes) kept.whole.1 within whole le last
      (torn_tail torn tail (drop end (drop forced bytes)) (λ none. none_behind count kept.whole.0 end (drop forced bytes) kept.whole.1 within whole none) is_torn))
      ∙ ap (λ (l : List ℕ). take forced bytes ++ torn_records keep torn l) kept.handed_bytes ∙ ap (λ (l : List ℕ). l ++ torn_records keep torn now.handed) kept.forced_bytes

  -- what is left so may be left
  pub kept_left : (end : ℕ) (c : List ℕ) → c ≡ take (forced + end) bytes → MayLeave now c
  kept_left end c is = (
    end,
    is ∙ take-add forced end bytes ∙ ap (λ (l : List ℕ). take forced bytes ++ take end l) kept.handed_bytes ∙ ap (λ (l : List ℕ). l ++ take end now.handed) kept.forced_bytes,
  )

  module _ (bytes' new : List ℕ) (calls' : List LogCall) (run : Vec ℕ Global) (same : run.items ≡ new) (is : calls' ≡ calls ++ Append run ∷ []) (more : bytes' ≡ bytes ++ new) where
    next : log_after start calls' ≡ record { forced = now.forced; handed = now.handed ++ new }
    next = log_pushed start calls calls' (Append run) is ∙ ap (λ (l : List ℕ). record { forced = now.forced; handed = now.handed ++ l }) same

    pub append_kept : (m : ℕ) × AreRecords m new → Kept start bytes' forced calls'
    append_kept are =
        let dropped : drop forced bytes' ≡ drop forced bytes ++ new = ap (drop forced) more ∙ drop-append-le forced bytes new kept.within in
        record {
          within = omega (arith, kept.within, ap length more, length-append bytes new);
          forced_bytes = ap (take forced) more ∙ take-append-le forced bytes new kept.within ∙ kept.forced_bytes ∙ sym (ap (λ (s : LogState). s.forced) next);
          handed_bytes = dropped ∙ ap (λ (l : List ℕ). l ++ new) kept.handed_bytes ∙ sym (ap (λ (s : LogState). s.handed) next);
          whole = (kept.whole.0 + are.0, subst (AreRecords (kept.whole.0 + are.0)) (sym dropped) (records-append kept.whole.0 are.0 (drop forced bytes) new kept.whole.1 are.1));
        }

    pub append_crash : Appended (log_reads now) new (MayLeave now) (MayLeave (log_after start calls'))
    append_crash c may = cut_push now new c (subst (λ (s : LogState). MayLeave s c) next may)

    pub append_elapses : Elapses (length calls) (length calls') (LogSince start calls) (LogSince start calls') (MayLeave (log_after start calls'))
    append_elapses = log_elapses start calls calls' (Append run) is

  pub force_kept : (len : ℕ) (calls' : List LogCall) → len ≡ length bytes → calls' ≡ calls ++ Force ∷ [] → Kept start bytes len calls'
  force_kept len calls' all is = all_kept start bytes len calls' all (log_pushed start calls calls' Force is ∙ ap fresh_log kept_reads)

  pub cut_kept : (len forced' : ℕ) (bytes' : List ℕ) (calls' : List LogCall) → bytes' ≡ take len bytes → forced' ≡ length bytes' → calls' ≡ calls ++ Cut len ∷ [] → Kept start bytes' forced' calls'
  cut_kept len forced' bytes' calls' left long is =
      all_kept start bytes' forced' calls' long (log_pushed start calls calls' (Cut len) is ∙ ap (λ (l : List ℕ). fresh_log (take len l)) kept_reads ∙ ap fresh_log (sym left))
