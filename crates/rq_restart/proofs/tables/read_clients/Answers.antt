use Rattle.std.proofs.Common.{◌≡◌, ℕ, ◌+◌, ◌/◌, ◌<◌, ap, refl, sym, ◌∙◌, subst, arith, Err, Ok}
use Rattle.rq_page.specs.Sizes.{Sizes, client_count, client_slot_at}
use Rattle.rq_page.specs.Slots.Slot.{Client}
use Rattle.rq_page.proofs.Addresses.{clients_have_slots}
use Rattle.rq_views.specs.Stored.{slots_in}
use Rattle.rq_pool.specs.Fetching.{Fetches, HasReadFor}
use Rattle.rq_model.specs.declared.refusal.Refusal.{Refusal}
use Rattle.rq_model.specs.declared.refusal.Refusal.TheVariants as why
use Rattle.rq_model.specs.declared.refusal.Damage.TheVariants.{Page}
use Rattle.rq_pool.proofs.Fetched.{read_then, reads_then, still_read, unfetched_reads}
use Rattle.rq_restart.proofs.Counting.{client_place, client_within, few_more, one_more_sent}
use Rattle.rq_restart.specs.Tables.{AreSentTo, AreWaitingTo, NotTabled}
use Rattle.rq_restart.proofs.Tabled.{IsNextAtHand, beyond_tabled, clients_begin, next_at_hand, of_senders, page_of, sent_stays, tabled_then, told_stays, unfetched_tabled, waiting_stays}
use Rattle.rq_store.specs.Opening.{place_slot, sent_told, tag_told}
use Rattle.rq_store.specs.Sends.{place_count}
use Rattle.rq_restart.proofs.tables.read_clients.Goals as goal

pub loop-client-init : goal.loop-client-init
loop-client-init g c =
    let none : c.args.senders + 0 ≡ c.args.senders = omega arith in
    record {
      read = still_read g.P.PageDevice c.args.pages.now;
      counted = refl;
      hand = subst (λ n. IsNextAtHand c.args.pages.now.sizes c.args.pages.now n) (sym (none ∙ c.requires.senders)) (clients_begin c.args.pages.now.sizes c.args.pages.now);
      waiting = λ w h. h;
      sent = subst (λ n. AreSentTo c.args.pages.now.sizes c.args.pages.now.images n c.args.sent.now) (sym none) c.requires.sent;
      few = c.requires.few;
    }

pub read_client-requires : goal.read_client-requires
read_client-requires g c =
    let number = c.requires.clients in
    let test = c.loop-client-test.true in
    let below : c.loop-client.client < client_count c.args.pages.now.sizes = omega (arith, number, test) in
    subst (λ (z : Sizes). c.loop-client.client < client_count z) (sym (c.loop-client.invariant.read.kept 0).sizes) below

pub loop-client-preserved : goal.loop-client-preserved
loop-client-preserved g c =
    let p = g.P.PageDevice in
    let z = c.args.pages.now.sizes in
    let so_far = c.loop-client.invariant in
    let old = c.loop-client.pages in
    let new = c.read_client.new.self in
    let client = c.loop-client.client in
    let held = c.in-Ok.held in
    let made = c.in-Ok.ensures in
    let was = (so_far.read.kept 0).sizes in
    let sizes : new.sizes ≡ z = (made.fetched.read.kept 0).sizes ∙ was in
    let senders = c.requires.senders in
    let number = c.requires.clients in
    let test = c.loop-client-test.true in
    let n : ℕ = c.args.senders + client in
    let below : n < place_count z = omega (arith, senders, number, test) in
    let place = sym (client_place z client) ∙ ap (λ k. place_slot z (k + client)) (sym senders) in
    let tells : slots_in z new.images (client_slot_at z client) ≡ Client held = subst (λ (y : Sizes). slots_in y new.images (client_slot_at y client) ≡ Client held) sizes made.held in
    let fetched : Fetches p (page_of z n) old (Ok held) new = subst (λ a. Fetches p (a / 16) old (Ok held) new) place (subst (λ (y : Sizes). Fetches p (client_slot_at y client / 16) old (Ok held) new) was made.fetched) in
    let next : c.args.senders + (client + 1) ≡ n + 1 = omega arith in
    let same = told_stays z p n (Ok held) old new fetched so_far.hand in
    record {
      read = read_then p c.args.pages.now old new so_far.read made.fetched.read;
      counted = made.fetched.counted ∙ so_far.counted;
      hand = next_at_hand z new n (c.args.senders + (client + 1)) next fetched.hand;
      sent = rw (c.set.ensures, next)
          (one_more_sent z new.images n _ _ c.loop-client.sent below (sym (ap sent_told tells) ∙ ap (λ a. sent_told (slots_in z new.images a)) place) (sym (ap tag_told tells) ∙ ap (λ a. tag_told (slots_in z new.images a)) place)
          (sent_stays z old.images new.images n c.loop-client.sent same so_far.sent));
      waiting = λ w h. waiting_stays z old.images new.images c.args.senders w (of_senders z old.images new.images c.args.senders (omega (arith, senders)) (λ i lt. same i (omega (arith, lt)))) (so_far.waiting w h);
      few = rw (c.set.ensures) (few_more c.args.records n held.count held.tag c.loop-client.sent (let all = so_far.sent.counts in omega (arith, all, below)) c.if-held-records.false so_far.few);
    }

-- it tells of more than the records
pub beyond-requires : goal.beyond-requires
beyond-requires g c =
    let there = c.in-Ok.ensures in
    let number = c.requires.clients in
    let test = c.loop-client-test.true in
    let z = c.args.pages.now.sizes in
    let on = (clients_have_slots z c.loop-client.client (omega (arith, number, test))).1 in
    let is : c.client_slot_of.result ≡ client_slot_at z c.loop-client.client = c.client_slot_of.ensures ∙ ap (λ (y : Sizes). client_slot_at y c.loop-client.client) (c.layout.ensures.sizes ∙ (there.fetched.read.kept 0).sizes ∙ (c.loop-client.invariant.read.kept 0).sizes) in
    omega (arith, is, on)

pub returns-then-held-records-clause-read : goal.returns-then-held-records-clause-read
returns-then-held-records-clause-read g c =
    let p = g.P.PageDevice in
    let so_far = c.loop-client.invariant in
    let made = c.in-Ok.ensures.fetched in
    let start = c.args.pages.now in
    let new = c.read_client.new.self in
    subst (λ (e : Refusal). HasReadFor p start (Err e) new) (sym c.beyond.ensures) (record {
      read = read_then p start c.loop-client.pages new so_far.read made.read;
      counted = tt;
      refused = made.counted ∙ so_far.counted;
    })

pub returns-then-held-records-clause-causes : goal.returns-then-held-records-clause-causes
returns-then-held-records-clause-causes g c =
    let p = g.P.PageDevice in
    let start = c.args.pages.now in
    let z = start.sizes in
    let so_far = c.loop-client.invariant in
    let client = c.loop-client.client in
    let old = c.loop-client.pages in
    let new = c.read_client.new.self in
    let held = c.in-Ok.held in
    let made = c.in-Ok.ensures in
    let sizes : new.sizes ≡ z = (made.fetched.read.kept 0).sizes ∙ (so_far.read.kept 0).sizes in
    let number = c.requires.clients in
    let test = c.loop-client-test.true in
    let below : client < client_count z = omega (arith, number, test) in
    let there = clients_have_slots z client below in
    let from = there.0 in
    let tells : slots_in z new.images (client_slot_at z client) ≡ Client held = subst (λ (y : Sizes). slots_in y new.images (client_slot_at y client) ≡ Client held) sizes made.held in
    let more = c.if-held-records.true in
    let at : c.beyond.result ≡ why.Damaged (Page (client_slot_at z client / 16)) = c.beyond.ensures ∙ ap (λ a. why.Damaged (Page (a / 16))) (c.client_slot_of.ensures ∙ ap (λ (y : Sizes). client_slot_at y client) (c.layout.ensures.sizes ∙ sizes)) in
    subst (λ (e : Refusal). NotTabled p c.args.records start e new) (sym at)
    (beyond_tabled p c.args.records (client_slot_at z client / 16) start new (omega (arith, from)) there.1 (read_then p start old new so_far.read made.fetched.read)
    (λ counted. (let within = client_within z new.images c.args.records client below counted in let is = ap sent_told tells in omega (arith, within, is, more))))

pub returns-in-Err-clause-read : goal.returns-in-Err-clause-read
returns-in-Err-clause-read g c =
    let p = g.P.PageDevice in
    let so_far = c.loop-client.invariant in
    let y = c.loop-client.pages.sizes in
    let client = c.loop-client.client in
    let number = c.requires.clients in
    let test = c.loop-client-test.true in
    let there = clients_have_slots y client (subst (λ (z : Sizes). client < client_count z) (sym (so_far.read.kept 0).sizes) (omega (arith, number, test))) in
    let from = there.0 in
    reads_then p (Err c.in-Err.refusal) c.args.pages.now c.loop-client.pages c.read_client.new.self so_far.read so_far.counted
    (unfetched_reads p (client_slot_at y client / 16) c.loop-client.pages c.read_client.new.self c.in-Err.refusal (omega (arith, from)) there.1 c.in-Err.ensures.fetched)

pub returns-in-Err-clause-causes : goal.returns-in-Err-clause-causes
returns-in-Err-clause-causes g c =
    let p = g.P.PageDevice in
    let so_far = c.loop-client.invariant in
    let y = c.loop-client.pages.sizes in
    let client = c.loop-client.client in
    let number = c.requires.clients in
    let test = c.loop-client-test.true in
    let there = clients_have_slots y client (subst (λ (z : Sizes). client < client_count z) (sym (so_far.read.kept 0).sizes) (omega (arith, number, test))) in
    let from = there.0 in
    tabled_then p c.args.records c.in-Err.refusal c.args.pages.now c.loop-client.pages c.read_client.new.self so_far.read c.in-Err.ensures.fetched.read
    (unfetched_tabled p c.args.records (client_slot_at y client / 16) c.in-Err.refusal c.loop-client.pages c.read_client.new.self (omega (arith, from)) there.1 c.in-Err.ensures.fetched)

pub returns-clause-read : goal.returns-clause-read
returns-clause-read g c = record { read = c.loop-client.invariant.read; counted = c.loop-client.invariant.counted; refused = tt }

pub returns-clause-sent : goal.returns-clause-sent
returns-clause-sent g c =
    let high = c.loop-client.auto.client-end in
    let low = c.loop-client-test.false in
    let all : c.loop-client.client ≡ c.args.clients = omega (arith, high, low) in
    subst (λ (z : Sizes). AreSentTo z c.loop-client.pages.images (c.args.senders + c.args.clients) c.loop-client.sent) (sym (c.loop-client.invariant.read.kept 0).sizes)
    (subst (λ n. AreSentTo c.args.pages.now.sizes c.loop-client.pages.images (c.args.senders + n) c.loop-client.sent) all c.loop-client.invariant.sent)

pub returns-clause-waiting : goal.returns-clause-waiting
returns-clause-waiting g c = λ w h. subst (λ (z : Sizes). AreWaitingTo z c.loop-client.pages.images c.args.senders w) (sym (c.loop-client.invariant.read.kept 0).sizes) (c.loop-client.invariant.waiting w h)
