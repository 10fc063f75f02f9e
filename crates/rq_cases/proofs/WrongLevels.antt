-- Wrong levels, and that a law refuses each.
use Rattle.std.proofs.Common.{[], ◌%◌, ◌*◌, ◌+◌, ◌/◌, ◌∙◌, ◌∷◌, ◌≡◌, ◌≢◌, List, None, Option, Some, ap, arith, false, inl, inr, map, refl, replicate, subst, suc, sym, true, zero, ℕ}
use Rattle.std.proofs.lemmas.Bool.{false≢true, le-ltb, true≢false}
use Rattle.std.proofs.lemmas.List.Elements.{recursion_from_All}
use Rattle.rq_model.specs.declared.record.Deed.TheVariants.{Close, UnlinkHead}
use Rattle.rq_model.specs.Deeds.{spelled_deed}
use Rattle.rq_model.specs.Vocabulary.{In}
use Rattle.rq_model.specs.declared.refusal.Refusal.TheVariants as why
use Rattle.rq_page.specs.declared.cell.Cell.{Cell}
use Rattle.rq_page.specs.Pages.{lsn_of}
use Rattle.rq_page.specs.declared.layout.PageKind.{PageKind}
use Rattle.rq_page.specs.declared.layout.PageKind.TheVariants as kind
use Rattle.rq_page.specs.Cells.{free_bytes}
use Rattle.rq_page.specs.Kinds.{kind_of}
use Rattle.rq_page.specs.Sizes.{Sizes}
use Rattle.rq_page.specs.Slots.{IsSlotFor, IsSlotOf}
use Rattle.rq_views.specs.Chain.{Cells, Linked, Node, first, message}
use Rattle.rq_views.specs.Items.{layout_of}
use Rattle.rq_views.specs.Log.{applied, cell_in}
use Rattle.rq_views.specs.Plans.{with_turn}
use Rattle.rq_views.specs.Plans.Turn.{Did}
use Rattle.rq_views.proofs.ChainLaws.{shows_here}
use Rattle.rq_level.specs.Asked.{AreBackOfSlots, AreBackOver, AreOfSlots, ChoosesBack, IsOver, MayChoose, StandsYet, TellsDeedOf, written_at}
use Rattle.rq_level.specs.Given.{given_at}
use Rattle.rq_level.specs.LevelState.{KnowsStore, LevelState, flag_at, is_free_slot, noted}
use Rattle.rq_level.specs.PagePlans.{IsOneWrite}
use Rattle.rq_level.specs.TakenBack.{newest_first}
use Rattle.rq_level.specs.declared.slots.Given.{Given}
use Rattle.rq_level.specs.declared.writes.SlotWrite.{SlotWrite}
use Rattle.rq_level.specs.Meaning.{Meaning, meaning_of}
use Rattle.rq_level.specs.Ops.{chain_job, tag_job}
use Rattle.rq_level.specs.Ops.Doing.{Receive}
use Rattle.rq_level.specs.Writes.{IsSlotWrite}
use Rattle.rq_level.specs.declared.writes.Plan.{Plan}
use Rattle.rq_level.proofs.Based.{each_in}
use Rattle.rq_level.proofs.ChainLaws.{free_first}
use Rattle.rq_cases.specs.Leveled.{all_free, first_chosen}
use Rattle.rq_cases.specs.Store.{sizes, tagged}
use Rattle.rq_cases.specs.WrongLevels.{FreesByOneByte, WrongLevels, some_free, some_used}

-- the first message of a chain stands where the chain begins
stands_first : (m : Cells) (s q : ℕ) (ns : List Node) (tag : ℕ) (body : List ℕ) (others : List (ℕ × List ℕ)) (c : Cell) → Linked m s 0 q ns 0 → (tag, body) ∷ others ≡ map message ns → m (first ns 0) ≡ Some c → ◌≡◌ {A = ℕ × List ℕ} (c.tag, c.body) (tag, body)
stands_first m s q [] tag body others c linked e at = absurd (let no : ◌≡◌ {A = List (ℕ × List ℕ)} ((tag, body) ∷ others) [] = e in cc)
stands_first m s q (n ∷ ns) tag body others c linked e at =
    let same : message n ≡ (tag, body) = cc in
    let cell : Some c ≡ Some _ = sym at ∙ linked.1 in
    let tags : c.tag ≡ n.tag = cc in
    let bodies : c.body ≡ n.body = cc in
    cc

-- bytes that begin with a zero and are no free cell's are no slot of a cell page
not_a_cell : (of : Option PageKind) (z : Sizes) (page slot : ℕ) (rest : List ℕ) → of ≡ Some kind.Cells
    → IsSlotFor of z page slot (0 ∷ rest) → 0 ∷ rest ≡ free_bytes
not_a_cell of z page slot rest is h =
    sym (subst (λ o. IsSlotFor o z page slot (0 ∷ rest)) is h).spelled_so

leaves_none : (z : Sizes) (k : LevelState) (p : Plan) → k.sizes ≡ Some z → FreesByOneByte z p → AreOfSlots k p → ⊥
leaves_none z k p told f are =
    let same : are.sizes ≡ z = cc in
    let each = each_in (IsSlotWrite are.sizes) p.writes.items (recursion_from_All (IsSlotWrite are.sizes) p.writes.items are.are) f.write f.there in
    let slot = subst (λ (y : Sizes). IsSlotOf y (f.write.at / 16) (f.write.at % 16) f.write.after) same each.after in
    let held = subst (λ (b : List ℕ). IsSlotFor (kind_of z (f.write.at / 16)) z (f.write.at / 16) (f.write.at % 16) b) f.after slot.held in
    f.another (f.after ∙ not_a_cell (kind_of z (f.write.at / 16)) z (f.write.at / 16) (f.write.at % 16) f.rest f.cell held)

-- a write over what is no free cell chooses none
chooses_none : (m : Meaning) (k after : LevelState) (w : SlotWrite) (rest ws : List SlotWrite) → ws ≡ w ∷ rest
    → is_free_slot w.before ≡ false → after ≢ k → MayChoose m k ws after → ⊥
chooses_none m k after w rest ws writes used other may =
    elim (subst (λ (vs : List SlotWrite). MayChoose m k vs after) writes may) [
      | inl same ↦ other same
      | inr chosen ↦ false≢true (sym used ∙ chosen.free)
    ]

-- of so many cells that are not free, none is
not_free : (n i : ℕ) → flag_at (replicate n false) i ≡ false
not_free zero i = refl
not_free (suc n) zero = refl
not_free (suc n) (suc i) = not_free n i

-- of 15 cells none is free
abbrev none_free : LevelState
none_free = record all_free { free = replicate 15 false }

-- the first is free
abbrev one_free : LevelState
one_free = record all_free { free = true ∷ replicate 14 false }

-- the first four slots of its page of groups, as they might be given
abbrev four_slots : List Given
four_slots =
    record { at = 17; bytes = [] } ∷ record { at = 18; bytes = [] } ∷ record { at = 19; bytes = [] }
    ∷ record { at = 20; bytes = [] } ∷ []

pub wrong_levels : WrongLevels
unfolding meaning_of
wrong_levels = record {
  refuses_a_closed_group = λ c lawful. (lawful.refuses c.kept c.asked c.given c.latched why.Closed c.kept (inr (refl, refl, refl, refl, refl, refl))).0;
  choice_of_a_refused_send = λ c q left right other lawful.
      other (lawful.refuses c.kept c.asked c.given c.latched why.NoMemory left (inr (refl, refl, refl, refl, refl, refl))).1;
  back_refused_as_full = λ c lawful. (lawful.refuses_undo c.kept c.asked c.given c.latched why.Full c.kept (inr (refl, refl, refl, refl, refl, refl))).0;
  choice_of_a_refused_back = λ c q left right other lawful.
      other (lawful.refuses_undo c.kept c.asked c.given c.latched why.Latched left (inr (refl, refl, refl, refl, refl, refl))).1;
  four_writes = λ n c q p left right but many lawful. (let few = lawful.count c.kept c.asked c.given c.latched p left (inr (refl, refl, refl, refl, refl, refl)) in absurd (omega (arith, few, many)));
  four_writes_back = λ n c q p left right but many lawful.
      (let few = lawful.count_undo c.kept c.asked c.given c.latched p left (inr (refl, refl, refl, refl, refl, refl)) in absurd (omega (arith, few, many)));
  not_given = λ c q p left w right but writes none no_cell lawful.
      let over = lawful.before c.kept c.asked c.given c.latched p left (inr (refl, refl, refl, refl, refl, refl)) right.asked.of right.asked.noted in
      let each = recursion_from_All (λ (v : SlotWrite). IsOver c.kept c.latched v (given_at v.at c.given)) p.writes.items over in
      no_cell (subst (IsOver c.kept c.latched w) none (each_in (λ (v : SlotWrite). IsOver c.kept c.latched v (given_at v.at c.given)) p.writes.items each w (subst (In w) (sym writes) (inl refl))));
  another_image = λ n c q p left w rest bytes right but writes given another lawful.
      let over = lawful.before c.kept c.asked c.given c.latched p left (inr (refl, refl, refl, refl, refl, refl)) right.asked.of right.asked.noted in
      let each = recursion_from_All (λ (v : SlotWrite). IsOver c.kept c.latched v (given_at v.at c.given)) p.writes.items over in
      another (subst (IsOver c.kept c.latched w) given (each_in (λ (v : SlotWrite). IsOver c.kept c.latched v (given_at v.at c.given)) p.writes.items each w (subst (In w) (sym writes) (inl refl))));
  not_compared = λ c q p left w t n page slot before after right but is one at puts other lawful.
      let over = lawful.before_undo c.kept c.asked c.given c.latched p left (inr (refl, refl, refl, refl, refl, refl)) right.asked.of right.asked.noted in
      let written = subst (λ told. AreBackOver told c.kept c.given c.latched p.writes.items) is over in
      other (subst (IsOneWrite (page * 16 + slot) after before) one written).1;
  flags_of_the_opening = λ c q left w slots right there before used none knows as_given lawful.
      let over = lawful.holds slots c.kept c.asked c.given c.latched q left (right.plans, none) knows right.asked.of as_given in
      let each = each_in (λ (v : SlotWrite). v.before ≡ slots v.at) q.writes.items (recursion_from_All (λ (v : SlotWrite). v.before ≡ slots v.at) q.writes.items over) w there in
      false≢true (sym used ∙ (ap is_free_slot (sym each ∙ before) ∙ free_first));
  back_by_flags_of_the_opening = λ c q left w slots t number deed right is there before used none knows as_given lawful.
      let over = lawful.holds_undo slots c.kept c.asked c.given c.latched q left (right.undoes, none) knows right.asked.of as_given (subst (StandsYet slots) (sym is) tt) in
      let each = each_in (λ (v : SlotWrite). v.before ≡ slots v.at) q.writes.items (recursion_from_All (λ (v : SlotWrite). v.before ≡ slots v.at) q.writes.items over) w there in
      false≢true (sym used ∙ (ap is_free_slot (sym each ∙ before) ∙ free_first));
  leaves_a_slot = λ n c q p left g right but there unwritten lawful.
      let written = lawful.asked_is_written c.kept c.asked c.given c.latched p left (inr (refl, refl, refl, refl, refl, refl)) right.asked.gathered in
      unwritten (each_in (λ (h : Given). In h.at (written_at p)) c.given (recursion_from_All (λ (h : Given). In h.at (written_at p)) c.given written) g there);
  nothing_is_undone = λ n c q p left g rest right but given none lawful.
      let written = lawful.asked_is_written_undo c.kept c.asked c.given c.latched p left (inr (refl, refl, refl, refl, refl, refl)) right.asked.gathered in
      let each = recursion_from_All (λ (h : Given). In h.at (map (λ (w : SlotWrite). w.at) p.writes.items)) c.given written in
      subst (λ (ws : List SlotWrite). In g.at (map (λ (w : SlotWrite). w.at) ws)) none (each_in (λ (h : Given). In h.at (map (λ (w : SlotWrite). w.at) p.writes.items)) c.given each g (subst (In g) (sym given) (inl refl)));
  takes_a_linked_cell = λ z c p left a bytes asked told lowest given other lawful.
      let spared = lawful.spares c.kept c.asked c.given c.latched p left (inr (refl, refl, refl, refl, refl, refl)) asked.gathered asked.noted other z a told lowest in
      let no : Some bytes ≡ None = sym given ∙ spared in
      absurd (cc);
  puts_back_into_a_linked_cell = λ z c p left a bytes asked told lowest given other lawful.
      let spared = lawful.spares_undo c.kept c.asked c.given c.latched p left (inr (refl, refl, refl, refl, refl, refl)) asked.gathered asked.noted other z a told lowest in
      let no : Some bytes ≡ None = sym given ∙ spared in
      absurd (cc);
  forgets_its_choice = λ z c q left w right told there none other lawful.
      other (lawful.takes c.kept c.asked c.given c.latched q c.kept (inr (refl, refl, refl, refl, refl, refl)) z w told there none);
  forgets_its_choice_back = λ z c q left w t number deed right is told there none other lawful.
      let chooses = lawful.takes_undo c.kept c.asked c.given c.latched q c.kept (inr (refl, refl, refl, refl, refl, refl)) in
      other (subst (λ r. ChoosesBack r c.kept c.given c.kept q) is chooses z w told there none);
  frees_by_one_byte = λ z c q p left right told but frees lawful.
      leaves_none z c.kept p told frees (lawful.slots c.kept c.asked c.given c.latched p left (inr (refl, refl, refl, refl, refl, refl)));
  frees_back_by_one_byte = λ z c q p left t number deed right is told but frees lawful.
      let are = lawful.slots_undo c.kept c.asked c.given c.latched p left (inr (refl, refl, refl, refl, refl, refl)) in
      leaves_none z c.kept p told frees (subst (λ r. AreBackOfSlots r c.kept p) is are);
  asks_again = λ lawful.
      let no : Some [] ≡ None = lawful.asks (Some tagged) (tag_job 0 70) (record { at = 49; bytes = [] } ∷ []) in
      absurd (cc);
  asks_for_a_page = λ lawful.
      let few = lawful.few None (chain_job (Receive 0)) four_slots (refl, (refl, (refl, (refl, tt)))) in
      absurd (omega (arith, few));
  deed_of_another = λ c q left sender right lawful.
      let told = lawful.told c.kept c.asked c.given c.latched (record q { deed = spelled_deed (Close sender) }) left (inr (refl, refl, refl, refl, refl, refl)) in
      let no : None ≡ Some told.deed = told.reads in
      absurd (cc);
  inverse_with_a_deed = λ n c q left bytes right some lawful. some (lawful.silent c.kept c.asked c.given c.latched (record q { deed = bytes }) left (inr (refl, refl, refl, refl, refl, refl)));
  reply_of_another = λ n c q left d r right told another lawful. another (lawful.replies c.kept c.asked c.given c.latched (record q { reply = r }) left (inr (refl, refl, refl, refl, refl, refl)) d told);
  back_replies_something_else = λ n c q left r right other lawful.
      other (lawful.replies_undo c.kept c.asked c.given c.latched (record q { reply = r }) left (inr (refl, refl, refl, refl, refl, refl)));
  put_back_at_the_tail = λ z c q left b p after h lawful.
      let d = UnlinkHead h.sender h.sequence h.tag h.body in
      let leaves = lawful.inverse z d h.view h.held c.kept c.asked c.given c.latched q left h.right.plans h.sizes h.told h.over h.shows in
      let back = leaves.sendings refl [] (with_turn (Did d) h.view) h.view refl refl b.kept h.txn h.number b.given b.latched p after (applied (newest_first z q) h.held) h.sizes_back (inr (refl, sym h.asked, refl, refl, refl, refl)) h.over_back leaves.does.0 in
      let shows = shows_here (layout_of z) (applied (newest_first z p) (applied (newest_first z q) h.held)) h.sender h.view h.directory (sym h.directory_is) (back.1.0.sender h.below) in
      h.another (stands_first _ h.sender _ shows.nodes h.tag h.body h.others h.first shows.linked (sym h.messages ∙ shows.messages) (ap (λ a. cell_in (applied (newest_first z p) (applied (newest_first z q) h.held) a)) (sym shows.head) ∙ ap cell_in h.first_is));
  frees_too_early = λ c q left w rest right writes used other lawful.
      let may = lawful.chooses c.kept c.asked c.given c.latched q (noted c.kept w.at w.after) (inr (refl, refl, refl, refl, refl, refl)) in
      chooses_none _ c.kept (noted c.kept w.at w.after) w rest q.writes.items writes used other may;
  frees_back_too_early = λ c q left w rest right writes used other lawful.
      let may = lawful.chooses_undo c.kept c.asked c.given c.latched q (noted c.kept w.at w.after) (inr (refl, refl, refl, refl, refl, refl)) in
      chooses_none _ c.kept (noted c.kept w.at w.after) w rest q.writes.items writes used other may;
  freed_cell_stays_used = λ lawful. false≢true (ap (λ (k : LevelState). flag_at k.free 0) (lawful.last all_free 33 some_used some_free));
  one_free_cell = λ lawful. true≢false (ap (λ (k : LevelState). flag_at k.free 0)
      (lawful.commutes none_free 33 34 some_free some_free (omega arith) (omega arith) (omega arith)));
  forgets_all_choices = λ lawful.
      false≢true (lawful.alone first_chosen sizes 34 0 some_free refl (omega arith) (λ c. omega arith)).2;
  makes_its_flags = λ lawful. (let same : 0 ≡ 15 = (lawful.room all_free 1 []).0 in absurd (omega (arith, same)));
  ready_by_its_flags = λ lawful.
      let same : sizes ≡ tagged = lawful.no_others all_free tagged sizes (omega arith, omega arith) refl in
      absurd (omega (arith, ap (λ (z : Sizes). z.tags) same));
  ready_with_a_free_cell = λ lawful.
      let known : KnowsStore sizes one_free = record { sizes = refl; free = omega arith; reserved = omega arith } in
      let some = (lawful.stays one_free sizes 33 some_used (omega arith) (known, (0, omega arith, refl))).1 in
      false≢true (sym (not_free 15 some.0) ∙ some.2);
  job_of_another = λ n c q left another lawful. another (lawful.own c.kept c.asked c.given c.latched q left (inr (refl, refl, refl, refl, refl, refl))).0;
  takes_back_of_another = λ n l c q left t number deed right is other lawful.
      let own = lawful.own_back c.kept c.asked c.given c.latched q left (inr (refl, refl, refl, refl, refl, refl)) in
      other (subst (TellsDeedOf n) is own).0;
  made_again = λ w once twice h. true≢false (h.answer ∙ le-ltb (lsn_of once) (lsn_of once) (omega arith));
}
