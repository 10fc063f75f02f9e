-- What no start begins, answers or leaves.
use Rattle.std.proofs.Common.{◌≡◌, Bool, true, false, [], ◌∷◌, Some, refl, ap, ◌∙◌, sym, not, arith}
use Rattle.std.proofs.lemmas.Bool.{lt-ltb, le-ltb, true≢false}
use Rattle.rq_model.specs.declared.refusal.Refusal.TheVariants as why
use Rattle.rq_model.specs.declared.txn.Sub.{Sub}
use Rattle.rq_model.specs.declared.txn.Txn.{Txn}
use Rattle.rq_model.specs.Tests.{first_of}
use Rattle.rq_disk.specs.declared.mem_log.MemLog.{MemLog}
use Rattle.rq_disk.specs.declared.mem_pages.MemPages.{MemPages}
use Rattle.rq_groups.specs.declared.End.TheVariants.{Sending, Receiving, Marking}
use Rattle.rq_groups.specs.Sides.{with_end}
use Rattle.rq_page.specs.Pages.{lsn_of}
use Rattle.rq_page.specs.Sizes.{cell_count, client_count}
use Rattle.rq_store.specs.State.{State}
use Rattle.rq_engine.specs.Opened.{OpenStore}
use Rattle.rq_cases.specs.KeptUp.{PagesAreKeptUp, StartsAreJudged, StartsAreTested}

-- none of these tests says Full
not_full : (a b c d e f g h l : Bool) → first_of ((a, why.Failed) ∷ (b, why.UnknownTransaction) ∷ (c, why.NotOpen) ∷ (d, why.Unfinished) ∷ (e, why.UnknownSender) ∷ (f, why.TooLong) ∷ (g, why.SenderBusy) ∷ (h, why.Closed) ∷ (false, why.Full) ∷ (l, why.LogFull) ∷ []) ≡ Some why.Full → ⊥
not_full true b c d e f g h l is = cc is
not_full false true c d e f g h l is = cc is
not_full false false true d e f g h l is = cc is
not_full false false false true e f g h l is = cc is
not_full false false false false true f g h l is = cc is
not_full false false false false false true g h l is = cc is
not_full false false false false false false true h l is = cc is
not_full false false false false false false false true l is = cc is
not_full false false false false false false false false true is = cc is
not_full false false false false false false false false false is = cc is

never_full : (a b c d l : Bool) → first_of ((a, why.Failed) ∷ (b, why.UnknownTransaction) ∷ (c, why.NotOpen) ∷ (d, why.Unfinished) ∷ (l, why.LogFull) ∷ []) ≡ Some why.Full → ⊥
never_full true b c d l is = cc is
never_full false true c d l is = cc is
never_full false false true d l is = cc is
never_full false false false true l is = cc is
never_full false false false false true is = cc is
never_full false false false false false is = cc is

module _ (old new : OpenStore MemPages MemLog) (t : Txn) where
  tests : (sub : Sub) → StartsAreTested old new t sub
  tests sub = record {
    send_beyond_the_cells = λ g tag body full a. true≢false (sym (ap not (le-ltb old.state.cells_in_use (cell_count old.state.sizes) full)) ∙ a.begun.1.1.1.1.1.1.1.1.1.0);
    send_to_a_closed_group = λ g tag body closed a. true≢false (sym closed ∙ a.begun.1.1.1.1.1.1.1.1.0);
    receive_over_a_full_log = λ full a. true≢false (sym full ∙ a.begun.1.1.1.1.1.1.0);
    receive_from_over_a_full_log = λ g full a. true≢false (sym full ∙ a.begun.1.1.1.1.1.1.1.0);
    close_again = λ g closed a. true≢false (sym closed ∙ a.begun.1.1.1.1.1.1.1.0);
    mark_beyond_the_clients = λ c tag beyond a. true≢false (sym (ap not (le-ltb c (client_count old.state.sizes) beyond)) ∙ a.begun.1.1.1.1.1.0);
    inverse_without_an_abort = λ goes a. true≢false (sym (ap not goes) ∙ a.begun.1.1.1.0);
    another_end_of_a_send = λ g tag body other a. other (ap (λ (s : State). s.ends) a.begun.2.lists ∙ ap (λ (q : Txn). with_end q (Sending g) old.state.ends) a.begun.0);
    another_end_of_a_receive = λ g other a. other (ap (λ (s : State). s.ends) a.begun.3.lists ∙ ap (λ (q : Txn). with_end q (Receiving g) old.state.ends) a.begun.0);
    another_end_of_a_close = λ g other a. other (ap (λ (s : State). s.ends) a.begun.2.lists ∙ ap (λ (q : Txn). with_end q (Sending g) old.state.ends) a.begun.0);
    another_end_of_a_mark = λ c tag other a. other (ap (λ (s : State). s.ends) a.begun.2.lists ∙ ap (λ (q : Txn). with_end q (Marking c) old.state.ends) a.begun.0);
    end_of_an_inverse = λ other a. other (ap (λ (s : State). s.ends) a.begun.2.lists);
    full_for_nothing = λ g tag body room a. not_full _ _ _ _ _ _ _ _ _ (rw (ap not (lt-ltb old.state.cells_in_use (cell_count old.state.sizes) room)) at a.refused.0);
    refused_by_the_test_of_another = λ a. never_full _ _ _ _ _ a.refused.0;
    latched_behind_a_test = λ g tag body closed a. true≢false (sym closed ∙ a.refused.0.1.1.1.1.1.1.1.0);
  }

  pages : PagesAreKeptUp old new t
  pages = record {
    clean_page_lost = λ r page clean other a. other (a.pages.0.others page clean);
    page_not_written = λ r page was is other a. other (a.pages.0.written page was is).reads;
    nothing_to_write_out = λ none a. true≢false (sym a.pages.1.2.changed ∙ none a.pages.1.0);
    none_to_write_out = λ none a.
        let f = a.pages.1.2 in
        let beyond = none a.pages.1.0 f.changed in
        let lsn = f.lsn in
        let same = ap lsn_of f.is in
        absurd (omega (arith, beyond, lsn, same));
    content_written = λ other k. other (k.read refl).0.same;
    content_unmarked = λ other k. other (k.read refl).1;
    step_left_changed = λ n other k. other (k.still refl);
  }

pub starts : StartsAreJudged
starts = record { tested = tests; kept_up = pages }
