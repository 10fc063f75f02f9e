-- What is asked by what is kept is that the record follows the rules, where its deed is read.
use Rattle.std.proofs.Common.{◌≡◌, ◌↔◌, ℕ, ◌+◌, Bool, true, false, ◌&&◌, ◌||◌, List, [], ◌∷◌, inl, inr, refl, sym, ◌∙◌, ap, subst, arith}
use Rattle.std.proofs.lemmas.Bool.{cases_Bool, true≢false, false_from_ne_true, or_parts}
use Rattle.rq_model.specs.declared.txn.Txn.{Txn}
use Rattle.rq_model.specs.declared.txn.Sub.{Sub}
use Rattle.rq_model.specs.declared.record.Record.{Record}
use Rattle.rq_model.specs.declared.record.Record.TheVariants as records
use Rattle.rq_model.specs.Content.{has_end}
use Rattle.rq_model.specs.Incarnations.{IsNext, incarnation_of}
use Rattle.rq_model.specs.Vocabulary.{first}
use Rattle.rq_views.specs.Items.{operation}
use Rattle.rq_views.specs.Legal.{is_of}
use Rattle.rq_analysis.specs.OpenWorkView.{OpenWorkView, open_work_of, has_sub}
use Rattle.rq_analysis.proofs.Undoable.{way_parts, way_from}
use Rattle.rq_analysis.specs.declared.dues.PendingUndo.{PendingUndo}
use Rattle.rq_analysis.specs.Dues.{dues}
use Rattle.rq_analysis.specs.Numbers.{numbers}
use Rattle.rq_analysis.specs.LogTables.{AreTablesOf, Passes, ended}
use Rattle.rq_analysis.specs.Runs.{Counts, has_count}
use Rattle.rq_analysis.specs.Rules.{CanBeRead, FollowAll, FollowsRules, IsReadInOrder, ends_op, greatest_number, has_op, has_op_end, op_of}
use Rattle.rq_analysis.proofs.Marks.{unknown}
use Rattle.rq_analysis.proofs.RuleEnds.{ended_kept}
use Rattle.rq_analysis.proofs.Operations.{number_kept, unfinished_kept, within_greatest}
use Rattle.rq_analysis.proofs.Owed.{due_kept}
use Rattle.rq_analysis.proofs.Writes.{undoable_kept}

unbegun_going : (o : Sub) (log : List Record) → has_op o log ≡ false → has_op_end o log ≡ false
unbegun_going o [] h = refl
unbegun_going o (r ∷ log) h =
    let k = or_parts (is_of o (op_of r)) (has_op o log) h in
    none (ends_op r) (is_of o (op_of r)) (has_op_end o log) k.0 (unbegun_going o log k.1)
  where
    none : (a b c : Bool) → b ≡ false → c ≡ false → ((a && b) || c) ≡ false
    none true b c e g = rw e g
    none false b c e g = g

module _ (log : List Record) (f : FollowAll log) where
  module _ (o : Sub) where
    open_parts : has_sub o (open_work_of log).unfinished ≡ true → (has_op o log ≡ true) × (has_op_end o log ≡ false)
    open_parts e = way_parts (has_op o log) (has_op_end o log) (sym (unfinished_kept log f o) ∙ e)

    open_from : has_op o log ≡ true → has_op_end o log ≡ false → has_sub o (open_work_of log).unfinished ≡ true
    open_from b g = unfinished_kept log f o ∙ way_from (has_op o log) (has_op_end o log) b g

  -- a transaction of the running incarnation
  module _ (t : Txn) (w : IsReadInOrder log) (e : t.incarnation ≡ incarnation_of log) where
    runs : has_count t.count (ended log) ≡ false → has_end log t ≡ false
    runs k = sym (ended_kept log t f w e) ∙ k

    running : has_end log t ≡ false → has_count t.count (ended log) ≡ false
    running k = ended_kept log t f w e ∙ k

  -- an operation with the next number has not begun
  next_unbegun : (t : Txn) (n : ℕ) → n ≡ greatest_number t log + 1 → has_op (operation t n) log ≡ false
  next_unbegun t n e = false_from_ne_true (has_op (operation t n) log) (λ h. let a = within_greatest t n log h in absurd (omega (arith, a, e)))

  -- by the log itself
  abbrev pub IsJudged : Record → Type 0
  IsJudged r = IsReadInOrder log → IsNext (incarnation_of log) r → CanBeRead r → Passes (open_work_of log) (dues log) (numbers log) (ended log) r ↔ FollowsRules log r

  judged : (r : Record) → IsJudged r
  judged (records.PageOp t n page slot before after) w o can = (to, from) where
    to : Passes (open_work_of log) (dues log) (numbers log) (ended log) (records.PageOp t n page slot before after) → FollowsRules log (records.PageOp t n page slot before after)
    to p =
        let run = runs t w o.1 p.0 in
        elim p.1 [
          | inl u ↦
              let k = open_parts (operation t n) u in
              record { running = run; going = k.1; begun = tt; numbered = λ off. absurd (true≢false (sym k.0 ∙ off)); undoes = tt; takes_back = tt; reads = tt; begins = tt }
          | inr e ↦
              let new : n ≡ greatest_number t log + 1 = e ∙ ap (λ (k : ℕ). k + 1) (number_kept log t f run) in
              record { running = run; going = unbegun_going (operation t n) log (next_unbegun t n new); begun = tt; numbered = λ off. new; undoes = tt; takes_back = tt; reads = tt; begins = tt }
        ]

    from : FollowsRules log (records.PageOp t n page slot before after) → Passes (open_work_of log) (dues log) (numbers log) (ended log) (records.PageOp t n page slot before after)
    from q = (
      running t w o.1 q.running,
      elim (cases_Bool (has_op (operation t n) log)) [
        | inl y ↦ inl (open_from (operation t n) y q.going)
        | inr off ↦ inr (q.numbered off ∙ ap (λ (k : ℕ). k + 1) (sym (number_kept log t f q.running)))
      ],
    )
  judged (records.PageUndo t n undone page slot after) w o can = (
    λ p. let k = open_parts (operation t n) p.1 in record { running = runs t w o.1 p.0; going = k.1; begun = k.0; numbered = tt; undoes = ap first (sym (undoable_kept log f (operation t n) k.1)) ∙ p.2; takes_back = tt; reads = tt; begins = tt },
    λ q. (running t w o.1 q.running, open_from (operation t n) q.begun q.going, ap first (undoable_kept log f (operation t n) q.going) ∙ q.undoes),
  )
  judged (records.OpEnd t n level deed) w o can = (
    λ p. let k = open_parts (operation t n) p.1 in record { running = runs t w o.1 p.0; going = k.1; begun = k.0; numbered = tt; undoes = tt; takes_back = tt; reads = can; begins = tt },
    λ q. (running t w o.1 q.running, open_from (operation t n) q.begun q.going),
  )
  judged (records.OpVoid t n) w o can = (
    λ p. let k = open_parts (operation t n) p.1 in record { running = runs t w o.1 p.0; going = k.1; begun = k.0; numbered = tt; undoes = tt; takes_back = tt; reads = tt; begins = tt },
    λ q. (running t w o.1 q.running, open_from (operation t n) q.begun q.going),
  )
  judged (records.CompEnd t n undone) w o can = (
    λ p. let k = open_parts (operation t n) p.1 in let run = runs t w o.1 p.0 in record { running = run; going = k.1; begun = k.0; numbered = tt; undoes = tt; takes_back = sym (due_kept log f t run) ∙ p.2; reads = tt; begins = tt },
    λ q. (running t w o.1 q.running, open_from (operation t n) q.begun q.going, due_kept log f t q.running ∙ q.takes_back),
  )
  judged (records.Commit t) w o can = (
    λ p. record { running = runs t w o.1 p; going = tt; begun = tt; numbered = tt; undoes = tt; takes_back = tt; reads = tt; begins = tt },
    λ q. running t w o.1 q.running,
  )
  judged (records.AbortEnd t) w o can = (
    λ p. record { running = runs t w o.1 p; going = tt; begun = tt; numbered = tt; undoes = tt; takes_back = tt; reads = tt; begins = tt },
    λ q. running t w o.1 q.running,
  )
  judged (records.Restart i) w o can = (
    λ p. record { running = tt; going = tt; begun = tt; numbered = tt; undoes = tt; takes_back = tt; reads = tt; begins = tt },
    λ q. tt,
  )
  -- a Base is the first record of a log, and comes behind none
  judged (records.Base many i) w o can = (
    λ p. absurd p,
    λ q. let none = ap incarnation_of q.begins ∙ unknown many in let some = o.0 in let is = o.1 in absurd (omega (arith, none, some, is)),
  )

pub judged_by : (log : List Record) (r : Record) (h : OpenWorkView) (ds : List PendingUndo) (os : List Sub) (ns : Counts) → AreTablesOf log h ds os ns → FollowAll log → IsReadInOrder log → IsNext (incarnation_of log) r → CanBeRead r → Passes h ds os ns r ↔ FollowsRules log r
judged_by log r h ds os ns k f w o can =
    let a : Passes (open_work_of log) (dues log) (numbers log) ns r ↔ FollowsRules log r = subst (λ (x : Counts). Passes (open_work_of log) (dues log) (numbers log) x r ↔ FollowsRules log r) (sym k.ended) (judged log f r w o can) in
    let b : Passes (open_work_of log) (dues log) os ns r ↔ FollowsRules log r = subst (λ (x : List Sub). Passes (open_work_of log) (dues log) x ns r ↔ FollowsRules log r) (sym k.numbers) a in
    let d : Passes (open_work_of log) ds os ns r ↔ FollowsRules log r = subst (λ (x : List PendingUndo). Passes (open_work_of log) x os ns r ↔ FollowsRules log r) (sym k.dues) b in
    subst (λ (x : OpenWorkView). Passes x ds os ns r ↔ FollowsRules log r) (sym k.open_work) d
