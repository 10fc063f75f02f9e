-- What is answered to what is asked, by the level that is asked.
use Rattle.std.proofs.Common.{◌≡◌, ℕ, ◌<◌, List, Bool, true, false, cond, nat_eq, Option, Some, None, Result, option_map, refl, sym, ◌∙◌, ap, subst, arith}
use Rattle.rq_model.specs.declared.record.Deed.{Deed}
use Rattle.rq_model.specs.declared.record.Deed.TheVariants.{Append, UnlinkHead, Close as Close_deed, Mark}
use Rattle.rq_model.specs.declared.record.Record.{Record}
use Rattle.rq_model.specs.declared.record.Record.TheVariants.{OpEnd}
use Rattle.rq_model.specs.declared.refusal.Refusal.{Refusal}
use Rattle.rq_model.specs.declared.txn.Txn.{Txn}
use Rattle.rq_model.specs.Deeds.{deed_by, deed_level}
use Rattle.rq_model.specs.Vocabulary.{is_some}
use Rattle.rq_model.proofs.Deeds.{told_by_its_level}
use Rattle.rq_model.proofs.Each.{some_is}
use Rattle.rq_page.specs.Sizes.{Sizes, client_count, sender_count}
use Rattle.rq_views.specs.InStore.{IsDeedOf}
use Rattle.rq_level.specs.Asked.{deed_back, job_back}
use Rattle.rq_level.specs.declared.writes.Plan.{Plan}
use Rattle.rq_level.specs.LevelState.{LevelState}
use Rattle.rq_level.specs.Meaning.{kept_at, level_count, meaning_of}
use Rattle.rq_level.specs.Ops.{Doing, Job, Tagging, doing_by, doing_in, tagging_by, tagging_in}
use Rattle.rq_level.specs.Ops.Doing.{Send, Receive, Close}
use Rattle.rq_level.proofs.Unread.{read_of}
use Rattle.rq_txn.specs.Rows.{Row}
use Rattle.rq_store.specs.State.{State}
use Rattle.rq_planner.specs.Answered.{IsAnswered, IsAnsweredBack, IsPlanned, IsPlannedBy, KnowsCells, MayPlan, MayUndo, wants_of}
use Rattle.rq_planner.specs.Asked.{Asked, HasPlace, IsOfStore, IsTaskOf, Task, asked_by, chain_or_tag, doing_sender, known, task_by, task_level}
use Rattle.rq_planner.specs.Asked.Asked.{Do, Undo}
use Rattle.rq_planner.specs.Asked.Task.{Chain, Tag}
use Rattle.rq_planner.proofs.Knowing.{cells_known}
use Rattle.rq_planner.proofs.Replies.{to_do_planned, to_undo_planned}
use Rattle.rq_planner.proofs.Tags.{tags_know, to_mark_planned, to_unmark_planned}

-- a deed of the store has its place there
pub has_place : (z : Sizes) (d : Deed) → IsDeedOf z d → HasPlace z d
has_place z (Append g n tag previous body) h = h
has_place z (UnlinkHead g n tag body) h = h
has_place z (Close_deed g) h = h
has_place z (Mark c tag previous) h = h.0

some_asked : {a b : Asked} → Some a ≡ Some b → a ≡ b
some_asked e = cc

some_task : {a b : Task} → Some a ≡ Some b → a ≡ b
some_task e = cc

-- by which level a task is read
pub task_cases : (P : Task → Type 0) (level : ℕ) (bytes : List ℕ) (task : Task) → task_by level bytes ≡ Some task → ((d : Doing) → doing_by level bytes ≡ Some d → level ≡ 1 → P (Chain d)) → ((t : Tagging) → tagging_by level bytes ≡ Some t → level ≡ 2 → P (Tag t)) → P task
task_cases P level bytes task told chain tag = by (doing_by level bytes) (tagging_by level bytes) refl refl told where
  by : (o : Option Doing) (p : Option Tagging) → doing_by level bytes ≡ o → tagging_by level bytes ≡ p → chain_or_tag o p ≡ Some task → P task
  by (Some d) p e f t = subst P (some_task t) (chain d e (read_of 1 level (doing_in bytes) (ap is_some e)))
  by None (Some u) e f t = subst P (some_task t) (tag u f (read_of 2 level (tagging_in bytes) (ap is_some f)))
  by None None e f t = absurd (let no : None ≡ Some task = t in cc)

module _ (z : Sizes) (images : List (List ℕ)) (rows : List Row) (levels : List LevelState) (knows : KnowsCells z images levels) (answer : Result Plan Refusal) where
  abbrev s : State
  s = known z images rows

  abbrev MayDo : ℕ → Job → Type 0
  MayDo n job = IsAnswered s (wants_of levels n) job (MayPlan s (meaning_of n) (kept_at levels n) job) answer

  of_one : (job : Job) → MayDo 1 job → (d : Doing) → job.undo ≡ false → doing_by job.level job.bytes ≡ Some d → doing_sender d < sender_count z → IsPlanned s (Do (Chain d)) answer
  unfolding meaning_of
  of_one job h d forward told inside = to_do_planned s (kept_at levels 1) (cells_known z images levels rows knows) job d answer (record { forward = forward; told = told }) inside h

  of_two : (job : Job) → MayDo 2 job → (t : Tagging) → job.undo ≡ false → tagging_by job.level job.bytes ≡ Some t → t.client < client_count z → IsPlanned s (Do (Tag t)) answer
  unfolding meaning_of
  of_two job h t forward told inside = to_mark_planned s (kept_at levels 2) (tags_know z images levels knows) job t answer forward told inside h

  plan_answered : (job : Job) (task : Task) → job.undo ≡ false → task_by job.level job.bytes ≡ Some task → IsTaskOf z task → MayDo job.level job → IsPlanned s (Do task) answer
  plan_answered job task forward told inside h = task_cases (λ (x : Task). IsTaskOf z x → IsPlanned s (Do x) answer) job.level job.bytes task told
      (λ d e one below. of_one job (subst (λ n. MayDo n job) one h) d forward e below)
      (λ t e two below. of_two job (subst (λ n. MayDo n job) two h) t forward e below)
      inside

  -- whatever is asked
  pub plan_says : (job : Job) → job.undo ≡ false → MayDo job.level job → IsPlannedBy s job answer
  plan_says job forward h asked told inside = by (task_by job.level job.bytes) refl (sym (ap (λ (b : Bool). cond b (option_map Undo (deed_by job.level job.bytes)) (option_map Do (task_by job.level job.bytes))) forward) ∙ told) where
    by : (o : Option Task) → task_by job.level job.bytes ≡ o → option_map Do o ≡ Some asked → IsPlanned s asked answer
    by None e t = absurd (let no : None ≡ Some asked = t in cc)
    by (Some d) e t = let is : Do d ≡ asked = some_asked t in subst (λ a. IsPlanned s a answer) is (plan_answered job d forward e (subst (IsOfStore z) (sym is) inside) h)

  module _ (t : Txn) (j : ℕ) where
    abbrev MayBack : (asked level : ℕ) → List ℕ → Type 0
    MayBack n level deed = IsAnswered s (wants_of levels n) (job_back (OpEnd t j level deed)) (MayUndo s (meaning_of n) (kept_at levels n) (OpEnd t j level deed)) answer

    back_of_one : (level : ℕ) (deed : List ℕ) → MayBack 1 level deed → (d : Deed) → deed_by level deed ≡ Some d → deed_level d ≡ 1 → IsDeedOf z d → IsPlanned s (Undo d) answer
    unfolding meaning_of
    back_of_one level deed h d told one inside = to_undo_planned s (kept_at levels 1) (cells_known z images levels rows knows) t j level d deed answer told one inside h

    back_of_two : (level : ℕ) (deed : List ℕ) → MayBack 2 level deed → (c tag previous : ℕ) → deed_by level deed ≡ Some (Mark c tag previous) → c < client_count z → IsPlanned s (Undo (Mark c tag previous)) answer
    unfolding meaning_of
    back_of_two level deed h c tag previous told inside = to_unmark_planned s (kept_at levels 2) (tags_know z images levels knows) t j level deed c tag previous told answer inside h

    back_answered : (level : ℕ) (deed : List ℕ) (d : Deed) → deed_by level deed ≡ Some d → HasPlace z d → MayBack level level deed → IsPlanned s (Undo d) answer
    back_answered level deed (Append g n tag previous body) told inside h = back_of_one level deed (subst (λ m. MayBack m level deed) (sym (told_by_its_level level deed _ told)) h) (Append g n tag previous body) told refl inside
    back_answered level deed (UnlinkHead g n tag body) told inside h = back_of_one level deed (subst (λ m. MayBack m level deed) (sym (told_by_its_level level deed _ told)) h) (UnlinkHead g n tag body) told refl inside
    back_answered level deed (Close_deed g) told inside h = back_of_one level deed (subst (λ m. MayBack m level deed) (sym (told_by_its_level level deed _ told)) h) (Close_deed g) told refl inside
    back_answered level deed (Mark c tag previous) told inside h = back_of_two level deed (subst (λ m. MayBack m level deed) (sym (told_by_its_level level deed _ told)) h) c tag previous told inside

    back_told : (level : ℕ) (deed : List ℕ) → MayBack level level deed → IsPlannedBy s (job_back (OpEnd t j level deed)) answer
    back_told level deed h asked told inside = by (deed_by level deed) refl told where
      by : (o : Option Deed) → deed_by level deed ≡ o → option_map Undo o ≡ Some asked → IsPlanned s asked answer
      by None e t = absurd (let no : None ≡ Some asked = t in cc)
      by (Some d) e t = let is : Undo d ≡ asked = some_asked t in subst (λ a. IsPlanned s a answer) is (back_answered level deed d e (subst (IsOfStore z) (sym is) inside) h)

  pub back_says : (told : Record) → IsAnsweredBack s levels told answer → IsPlannedBy s (job_back told) answer
  back_says (OpEnd t j level deed) h asked told inside = back_told t j level deed h asked told inside
  back_says _ h asked told inside = absurd (let no : None ≡ Some asked = told in cc)

-- something that is to be done is asked for by its job
pub asks_to_do : (job : Job) (task : Task) → job.undo ≡ false → task_by job.level job.bytes ≡ Some task → asked_by job ≡ Some (Do task)
asks_to_do job task forward told = ap (λ (b : Bool). cond b (option_map Undo (deed_by job.level job.bytes)) (option_map Do (task_by job.level job.bytes))) forward ∙ ap (option_map Do) told

-- what takes back the deed that a record tells is asked for by its job
pub asks_back : (told : Record) (d : Deed) → deed_back told ≡ Some d → asked_by (job_back told) ≡ Some (Undo d)
asks_back (OpEnd t j level deed) d told = ap (option_map Undo) told
asks_back _ d told = absurd (let no : None ≡ Some d = told in cc)

-- what is to be done is asked of the level that does it
pub asked_of : (level : ℕ) (bytes : List ℕ) (task : Task) → task_by level bytes ≡ Some task → level ≡ task_level task
asked_of level bytes task told = task_cases (λ x. level ≡ task_level x) level bytes task told (λ d e one. one ∙ sym (chains_do d)) (λ t e two. two) where
  chains_do : (d : Doing) → task_level (Chain d) ≡ 1
  chains_do (Send g tag body) = refl
  chains_do (Receive g) = refl
  chains_do (Close g) = refl

-- there is such a level
pub there_is_one : (level : ℕ) (bytes : List ℕ) → is_some (task_by level bytes) ≡ true → level < level_count
there_is_one level bytes some =
    let t = some_is (task_by level bytes) some in
    task_cases (λ x. level < level_count) level bytes t.0 t.1 (λ d e one. omega (arith, one)) (λ t e two. omega (arith, two))

-- a job that the level of chains or that of tags reads
pub chained : (level : ℕ) (bytes : List ℕ) (d : Doing) → doing_by level bytes ≡ Some d → task_by level bytes ≡ Some (Chain d)
chained level bytes d told = ap (λ o. chain_or_tag o (tagging_by level bytes)) told

pub tagged : (level : ℕ) (bytes : List ℕ) (t : Tagging) → level ≡ 2 → tagging_by level bytes ≡ Some t → task_by level bytes ≡ Some (Tag t)
tagged level bytes t two told =
    ap (λ n. chain_or_tag (cond (nat_eq n 1) (doing_in bytes) None) (tagging_by level bytes)) two ∙ ap (option_map Tag) told
