-- What a start and a content leave where a test of theirs holds, and that none holds.
use Rattle.std.proofs.Common.{◌≡◌, ◌≤◌, ◌<◌, ◌++◌, ℕ, Bool, true, false, List, [], ◌∷◌, length, drop, not, refl, sym, ap, ◌∙◌, Some, Option, cond}
use Rattle.std.proofs.lemmas.Bool.{false≢true, lt-ltb, le-ltb}
use Rattle.rq_model.specs.declared.refusal.Refusal.{Refusal}
use Rattle.rq_model.specs.declared.refusal.Refusal.TheVariants as why
use Rattle.rq_model.specs.declared.txn.Txn.{Txn}
use Rattle.rq_model.specs.History.{Call}
use Rattle.rq_model.specs.History.Call.{Start_send, Start_receive, Start_receive_from, Start_close, Start_mark, Undo_next, Show}
use Rattle.rq_model.specs.Ledger.{found}
use Rattle.rq_model.specs.Tests.{IsUnready, NoneHolds, first_of, log_full, newest, ready_tests, undo_cost}
use Rattle.rq_model.specs.Vocabulary.{client_group, message_of}
use Rattle.rq_groups.specs.Ends.{is_free_for}
use Rattle.rq_page.specs.Sizes.{cell_count, client_count, sender_count}
use Rattle.rq_pool.specs.Indexed.{TellsClosed}
use Rattle.rq_store.specs.State.{State, ledger_of}
use Rattle.rq_txn.specs.Rows.{any_under}
use Rattle.rq_engine.specs.KeptUp.{RefusedBehind, RefusedButRead}
use Rattle.rq_engine.specs.Opened.{OpenStore}
use Rattle.rq_engine.specs.Tested.{group_closed, is_closed, tested}

stays_first : (b : Bool) (x o p : Option Refusal) (r : Refusal) → (o ≡ Some r → p ≡ Some r) → cond b x o ≡ Some r → cond b x p ≡ Some r
stays_first true x o p r more e = e
stays_first false x o p r more e = more e

-- the first test that holds stays the first, whatever comes behind
first_more : (ts us : List (Bool × Refusal)) (r : Refusal) → first_of ts ≡ Some r → first_of (ts ++ us) ≡ Some r
first_more [] us r e = cc e
first_more (c ∷ cs) us r e = stays_first c.0 (Some c.1) (first_of cs) (first_of (cs ++ us)) r (first_more cs us r) e

-- no test of a transaction wants memory
no_memory : (a b c d : Bool) → first_of ((a, why.Failed) ∷ (b, why.UnknownTransaction) ∷ (c, why.NotOpen) ∷ (d, why.Unfinished) ∷ []) ≡ Some why.NoMemory → ⊥
no_memory true b c d e = cc e
no_memory false true c d e = cc e
no_memory false false true d e = cc e
no_memory false false false true e = cc e
no_memory false false false false e = cc e

module _ {P L : Type 0} (old : OpenStore P L) (t : Txn) (back : Bool) where
  abbrev ready : List (Bool × Refusal)
  ready = ready_tests (ledger_of old.state) t back

  -- a transaction that may do nothing now is refused by the first of its tests
  unready_leaves : (starts : Bool) (us : List (Bool × Refusal)) (r : Refusal) → IsUnready (ledger_of old.state) t back r → RefusedBehind starts (ready ++ us) old r old
  unready_leaves starts us why.DiskWrite u = absurd (false≢true u.plain)
  unready_leaves starts us why.DiskRead u = absurd (false≢true u.plain)
  unready_leaves starts us (why.Damaged d) u = absurd (false≢true u.plain)
  unready_leaves starts us why.Latched u = absurd (false≢true u.plain)
  unready_leaves starts us why.PoolFull u = absurd (false≢true u.plain)
  unready_leaves starts us why.NoMemory u = absurd (no_memory _ _ _ _ u.first)
  unready_leaves starts us r u = (first_more ready us r u.first, refl)

-- so of each start
module _ {P L : Type 0} (old : OpenStore P L) (t : Txn) (r : Refusal) where
  module _ (u : IsUnready (ledger_of old.state) t false r) where
    pub send_unready : (g tag : ℕ) (body : List ℕ) → RefusedButRead (Start_send t (message_of g tag body)) old r old
    send_unready g tag body = unready_leaves old t false true (drop 4 (tested old.state (Start_send t (message_of g tag body)))) r u

    pub take_unready : RefusedButRead (Start_receive t) old r old
    take_unready = unready_leaves old t false true (drop 4 (tested old.state (Start_receive t))) r u

    pub from_unready : (g : ℕ) → RefusedButRead (Start_receive_from t g) old r old
    from_unready g = unready_leaves old t false true (drop 4 (tested old.state (Start_receive_from t g))) r u

    pub close_unready : (g : ℕ) → RefusedButRead (Start_close t g) old r old
    close_unready g = unready_leaves old t false true (drop 4 (tested old.state (Start_close t g))) r u

    pub mark_unready : (c tag : ℕ) → RefusedButRead (Start_mark t c tag) old r old
    mark_unready c tag = unready_leaves old t false true (drop 4 (tested old.state (Start_mark t c tag))) r u

  pub undo_unready : IsUnready (ledger_of old.state) t true r → RefusedButRead (Undo_next t) old r old
  undo_unready u = unready_leaves old t true true (drop 4 (tested old.state (Undo_next t))) r u

-- a group that is told closed is closed by its slot
pub closed_is : (s : State) (g : ℕ) (b : Bool) → TellsClosed s.sizes s.images g b → group_closed s g ≡ b
closed_is s g b c = ap is_closed c.held ∙ sym c.tells

module _ {P L : Type 0} (old : OpenStore P L) (t : Txn) (h : NoneHolds (ready_tests (ledger_of old.state) t false)) where
  abbrev s : State
  s = old.state

  -- a send
  module _ (g tag : ℕ) (body : List ℕ) where
    abbrev send : Call
    send = Start_send t (message_of g tag body)

    pub send_unknown : sender_count s.sizes ≤ g → RefusedButRead send old why.UnknownSender old
    send_unknown n = (rw (h.0, h.1.0, h.1.1.0, h.1.1.1.0, ap not (le-ltb g (sender_count s.sizes) n)) refl, refl)

    module _ (known : g < sender_count s.sizes) where
      pub send_long : 216 < length body → RefusedButRead send old why.TooLong old
      send_long n = (rw (h.0, h.1.0, h.1.1.0, h.1.1.1.0, ap not (lt-ltb g (sender_count s.sizes) known), lt-ltb 216 (length body) n) refl, refl)

      module _ (short : length body ≤ 216) where
        pub send_busy : is_free_for t g s.ends.sending ≡ false → RefusedButRead send old why.SenderBusy old
        send_busy busy = (rw (h.0, h.1.0, h.1.1.0, h.1.1.1.0, ap not (lt-ltb g (sender_count s.sizes) known), le-ltb 216 (length body) short, busy) refl, refl)

        module _ (free : is_free_for t g s.ends.sending ≡ true) where
          pub send_closed : TellsClosed s.sizes s.images g true → RefusedButRead send old why.Closed old
          send_closed c = (rw (h.0, h.1.0, h.1.1.0, h.1.1.1.0, ap not (lt-ltb g (sender_count s.sizes) known), le-ltb 216 (length body) short, free, closed_is s g true c) refl, refl)

          module _ (unclosed : TellsClosed s.sizes s.images g false) where
            pub send_full : cell_count s.sizes ≤ s.cells_in_use → RefusedButRead send old why.Full old
            send_full n = (rw (h.0, h.1.0, h.1.1.0, h.1.1.1.0, ap not (lt-ltb g (sender_count s.sizes) known), le-ltb 216 (length body) short, free, closed_is s g false unclosed, le-ltb s.cells_in_use (cell_count s.sizes) n) refl, refl)

            module _ (room : s.cells_in_use < cell_count s.sizes) where
              pub send_log_full : log_full (ledger_of s) 4 ≡ true → RefusedButRead send old why.LogFull old
              send_log_full full = (rw (h.0, h.1.0, h.1.1.0, h.1.1.1.0, ap not (lt-ltb g (sender_count s.sizes) known), le-ltb 216 (length body) short, free, closed_is s g false unclosed, lt-ltb s.cells_in_use (cell_count s.sizes) room, full) refl, refl)

              pub send_tested : log_full (ledger_of s) 4 ≡ false → NoneHolds (tested s send)
              send_tested log = (h.0, (h.1.0, (h.1.1.0, (h.1.1.1.0, (ap not (lt-ltb g (sender_count s.sizes) known), (le-ltb 216 (length body) short, (ap not free, (closed_is s g false unclosed, (ap not (lt-ltb s.cells_in_use (cell_count s.sizes) room), (log, tt))))))))))

  -- a close
  module _ (g : ℕ) where
    pub close_unknown : sender_count s.sizes ≤ g → RefusedButRead (Start_close t g) old why.UnknownSender old
    close_unknown n = (rw (h.0, h.1.0, h.1.1.0, h.1.1.1.0, ap not (le-ltb g (sender_count s.sizes) n)) refl, refl)

    pub from_unknown : sender_count s.sizes ≤ g → RefusedButRead (Start_receive_from t g) old why.UnknownSender old
    from_unknown n = (rw (h.0, h.1.0, h.1.1.0, h.1.1.1.0, ap not (le-ltb g (sender_count s.sizes) n)) refl, refl)

    module _ (known : g < sender_count s.sizes) where
      pub close_busy : is_free_for t g s.ends.sending ≡ false → RefusedButRead (Start_close t g) old why.SenderBusy old
      close_busy busy = (rw (h.0, h.1.0, h.1.1.0, h.1.1.1.0, ap not (lt-ltb g (sender_count s.sizes) known), busy) refl, refl)

      module _ (free : is_free_for t g s.ends.sending ≡ true) where
        pub close_closed : TellsClosed s.sizes s.images g true → RefusedButRead (Start_close t g) old why.Closed old
        close_closed c = (rw (h.0, h.1.0, h.1.1.0, h.1.1.1.0, ap not (lt-ltb g (sender_count s.sizes) known), free, closed_is s g true c) refl, refl)

        module _ (unclosed : TellsClosed s.sizes s.images g false) where
          pub close_log_full : log_full (ledger_of s) 2 ≡ true → RefusedButRead (Start_close t g) old why.LogFull old
          close_log_full full = (rw (h.0, h.1.0, h.1.1.0, h.1.1.1.0, ap not (lt-ltb g (sender_count s.sizes) known), free, closed_is s g false unclosed, full) refl, refl)

          pub close_tested : log_full (ledger_of s) 2 ≡ false → NoneHolds (tested s (Start_close t g))
          close_tested log = (h.0, (h.1.0, (h.1.1.0, (h.1.1.1.0, (ap not (lt-ltb g (sender_count s.sizes) known), (ap not free, (closed_is s g false unclosed, (log, tt))))))))

      -- a receive from it
      pub from_busy : is_free_for t g s.ends.receiving ≡ false → RefusedButRead (Start_receive_from t g) old why.ReceiverBusy old
      from_busy busy = (rw (h.0, h.1.0, h.1.1.0, h.1.1.1.0, ap not (lt-ltb g (sender_count s.sizes) known), busy) refl, refl)

      module _ (free : is_free_for t g s.ends.receiving ≡ true) where
        pub from_log_full : log_full (ledger_of s) 4 ≡ true → RefusedButRead (Start_receive_from t g) old why.LogFull old
        from_log_full full = (rw (h.0, h.1.0, h.1.1.0, h.1.1.1.0, ap not (lt-ltb g (sender_count s.sizes) known), free, full) refl, refl)

        pub from_tested : log_full (ledger_of s) 4 ≡ false → NoneHolds (tested s (Start_receive_from t g))
        from_tested log = (h.0, (h.1.0, (h.1.1.0, (h.1.1.1.0, (ap not (lt-ltb g (sender_count s.sizes) known), (ap not free, (log, tt)))))))

  -- a receive from some sender
  pub take_log_full : log_full (ledger_of s) 4 ≡ true → RefusedButRead (Start_receive t) old why.LogFull old
  take_log_full full = (rw (h.0, h.1.0, h.1.1.0, h.1.1.1.0, full) refl, refl)

  pub take_tested : log_full (ledger_of s) 4 ≡ false → NoneHolds (tested s (Start_receive t))
  take_tested log = (h.0, (h.1.0, (h.1.1.0, (h.1.1.1.0, (log, tt)))))

  -- a mark
  module _ (c tag : ℕ) where
    pub mark_unknown : client_count s.sizes ≤ c → RefusedButRead (Start_mark t c tag) old why.UnknownClient old
    mark_unknown n = (rw (h.0, h.1.0, h.1.1.0, h.1.1.1.0, ap not (le-ltb c (client_count s.sizes) n)) refl, refl)

    module _ (known : c < client_count s.sizes) where
      pub mark_busy : is_free_for t (client_group c) s.ends.sending ≡ false → RefusedButRead (Start_mark t c tag) old why.ClientBusy old
      mark_busy busy = (rw (h.0, h.1.0, h.1.1.0, h.1.1.1.0, ap not (lt-ltb c (client_count s.sizes) known), busy) refl, refl)

      module _ (free : is_free_for t (client_group c) s.ends.sending ≡ true) where
        pub mark_log_full : log_full (ledger_of s) 2 ≡ true → RefusedButRead (Start_mark t c tag) old why.LogFull old
        mark_log_full full = (rw (h.0, h.1.0, h.1.1.0, h.1.1.1.0, ap not (lt-ltb c (client_count s.sizes) known), free, full) refl, refl)

        pub mark_tested : log_full (ledger_of s) 2 ≡ false → NoneHolds (tested s (Start_mark t c tag))
        mark_tested log = (h.0, (h.1.0, (h.1.1.0, (h.1.1.1.0, (ap not (lt-ltb c (client_count s.sizes) known), (ap not free, (log, tt)))))))

-- an inverse
module _ {P L : Type 0} (old : OpenStore P L) (t : Txn) (h : NoneHolds (ready_tests (ledger_of old.state) t true)) where
  pub undo_log_full : log_full (ledger_of old.state) (undo_cost (newest (found t (ledger_of old.state).open_ones))) ≡ true → RefusedButRead (Undo_next t) old why.LogFull old
  undo_log_full full = (rw (h.0, h.1.0, h.1.1.0, h.1.1.1.0, full) refl, refl)

  pub undo_tested : log_full (ledger_of old.state) (undo_cost (newest (found t (ledger_of old.state).open_ones))) ≡ false → NoneHolds (tested old.state (Undo_next t))
  undo_tested log = (h.0, (h.1.0, (h.1.1.0, (h.1.1.1.0, (log, tt)))))

-- a content
module _ {P L : Type 0} (old : OpenStore P L) where
  pub show_failed : (r : Refusal) → r ≡ why.Failed → old.state.failed ≡ true → RefusedButRead Show old r old
  show_failed r is failed = rw (is) (rw (failed) refl, refl)

  pub show_busy : old.state.failed ≡ false → any_under old.state.rows ≡ true → RefusedButRead Show old why.Unfinished old
  show_busy running busy = (rw (running, busy) refl, refl)
