use Rattle.std.proofs.Common.{◌≡◌, ◌∷◌, ℕ, suc, List, take, get_or, length, refl, true, false, inl, inr, ap, arith, sym, ◌∙◌}
use Rattle.std.proofs.lemmas.Bool.Decides.{nat_tests}
use Rattle.std.proofs.lemmas.List.{length-take}
use Rattle.rq_disk.specs.FileCalls.{has_failed}
use Rattle.rq_disk.specs.WorkedFiles.{empty}
use Rattle.rq_disk.proofs.laws.files_are_judged.Goals as goal

pub returns : goal.returns
returns c = record {
  pages_read = (refl, (refl, tt));
  page_forgotten = λ a. (let e : 0 ≡ 7 = ap (λ (l : List ℕ). get_or l 0 0) a.0 in omega (arith, e));
  page_of_none = λ a. (let e : 7 ≡ 0 = ap (λ (l : List ℕ). get_or l 0 0) a.0 in omega (arith, e));
  page_astray = λ a. (let e : 7 ≡ 0 = ap (λ (l : List ℕ). get_or l 0 0) a.0 in omega (arith, e));
  page_tried = inr (refl, refl);
  page_stayed = inl refl;
  page_synced = λ a. (let e : 0 ≡ 7 = ap (λ (l : List ℕ). get_or l 0 0) a in omega (arith, e));
  page_missed = inl refl;
  page_missed_synced = inl refl;
  page_missed_whole = inr (refl, refl);
  page_of_nobody = λ a. elim a [
    | inl held ↦ (let e : 8 ≡ 0 = ap (λ (l : List ℕ). get_or l 0 0) held in omega (arith, e))
    | inr took ↦ (let e : 8 ≡ 7 = ap (λ (l : List ℕ). get_or l 0 0) took.1 in omega (arith, e))
  ];
  whole = λ bytes long. grind (arith, nat_tests, long);
  in_part = refl;
  no_file = λ held a. (let e : 2 ≡ 1 = ap length (a.0 ∙ sym a.1.0) in omega (arith, e));
  astray = λ bytes. refl;
  log_read = (refl, refl);
  log_otherwise = λ a. (let e : 5 ≡ 0 = ap (λ (l : List ℕ). get_or l 0 0) a.0 in omega (arith, e));
  log_longer = λ a. omega (arith, a);
  log_stayed = inl refl;
  log_torn = inr (2, refl);
  log_whole = inr (4, refl);
  log_forced = λ a. (let e : 1 ≡ 5 = ap length a in omega (arith, e));
  log_missed_forced = inl refl;
  log_missed_whole = inr (4, refl);
  log_of_nobody = λ a. elim a [
    | inl held ↦ (let e : 0 ≡ 1 = ap length held in omega (arith, e))
    | inr took ↦ (let e : 0 ≡ suc (length (take took.0 empty)) = ap length took.1 in omega (arith, e))
  ];
  log_cut = (refl, refl);
  log_cut_stays = λ a. (let e : 5 ≡ 2 = ap length a in omega (arith, e));
  log_cut_part = inr (3, omega arith, refl);
  log_cut_less = λ a. elim a [
    | inl held ↦ (let e : 1 ≡ 5 = ap length held in omega (arith, e))
    | inr cut ↦ (let e : 1 ≡ length (take cut.0 (9 ∷ empty)) = ap length cut.2 in omega (arith, e, cut.1, length-take cut.0 (9 ∷ empty)))
  ];
  log_replaced = (refl, refl);
  log_replaced_stays = λ a. (let e : 1 ≡ 4 = ap length a in omega (arith, e));
  log_unreplaced_old = inl (inr (1, refl));
  log_unreplaced_new = inr refl;
  log_unreplaced_part = λ a. elim a [
    | inl old ↦ elim old [
      | inl held ↦ (let e : 2 ≡ 1 = ap length held in omega (arith, e))
      | inr took ↦ (let e : 0 ≡ 9 = ap (λ (l : List ℕ). get_or l 0 0) took.1 in omega (arith, e))
    ]
    | inr new ↦ (let e : 2 ≡ 4 = ap length new in omega (arith, e))
  ];
  ends = refl;
  goes_on = refl;
  erred_behind = inr (inl (refl, refl));
  erred_in_it = inr (inr refl);
  erred_outside = inl (omega arith, refl);
  erred_for_nothing = λ a. elim a [
    | inl outside ↦ omega (arith, outside.0)
    | inr (inl over) ↦ cc over.1
    | inr (inr own) ↦ (let e : 1 ≡ 2 = ap length own in omega (arith, e))
  ];
  erred_for_an_earlier_one = λ a. elim a [
    | inl outside ↦ omega (arith, outside.0)
    | inr (inl over) ↦ cc over.1
    | inr (inr own) ↦ (let e : 1 ≡ 2 = ap length own in omega (arith, e))
  ];
  synced_for_a_read = λ a. elim a [
    | inl over ↦ (let e : 1 ≡ 0 = ap length over.0 in omega (arith, e))
    | inr own ↦ (let e : false ≡ true = ap has_failed own in cc e)
  ];
  forced_for_a_read = λ a. elim a [
    | inl over ↦ (let e : 1 ≡ 0 = ap length over.0 in omega (arith, e))
    | inr own ↦ (let e : false ≡ true = ap has_failed own in cc e)
  ];
  read_for_a_sync = λ a. elim a [
    | inl over ↦ (let e : 1 ≡ 0 = ap length over.0 in omega (arith, e))
    | inr own ↦ (let e : true ≡ false = ap has_failed own in cc e)
  ];
}
