-- One kind of line after another; a line that is not answered leaves all as it was.
-- Assumes nothing.
use mathlib.Core.Path.{◌≡◌, refl, sym, ap, ap₂, ◌∙◌, subst}
use mathlib.Core.Bool.{Bool, true, false, cond, true≢false}
use mathlib.Core.List.{List, []}
use mathlib.Core.Option.{Option, none, some}
use Prim.Native.Nat.{ℕ}
use lib.Dec.{eqb}
use lib.ListN.{length, get_or, drop, replicate}
use Rattle.std.specs.Prelude.{Some, None, Option as Maybe}
use Rattle.std.specs.Option.{is_some}
use Rattle.topography.specs.declared.TopoCounts.{TopoCounts}
use Rattle.statistics.specs.declared.Statistics.{Statistics}
use Rattle.statistics.specs.Statistics.{no_statistics}
use Rattle.subscription.specs.declared.Subscription.{Subscription}
use Rattle.subscription.specs.Record.{free_record}
use Rattle.line.specs.Line.{verb_is, with_end}
use Rattle.line.proofs.Fields.{with_words, unanswered}
use Rattle.answer.specs.Answer.{ascii, word}
use Rattle.answer.specs.declared.Room.{Room}
use Rattle.answer.specs.Lent.{Fills}
use Rattle.answer.specs.Said.{pieces_of, answered, Answered}
use Rattle.answer.proofs.Rooms.{◌▹◌}
use Rattle.answer.proofs.Said.{not_answered, answered_by}
use Rattle.packed.specs.Packed.{tables_of}
use Rattle.publication.specs.declared.Publication.{Publication}
use Rattle.session_table.specs.Table.{Tables}
use Rattle.lent.specs.declared.Slots.{Slots}
use Rattle.scenario_wire.specs.Publications as publications
use Rattle.scenario_data.specs.Data as description
use Rattle.scenario_md.specs.Lines.{Asked, calls, looks, asked_of}
use Rattle.scenario_md.specs.Served as md
use Rattle.scenario_calls.specs.declared.State.{State}
use Rattle.scenario_pd.specs.Lines as pd
use Rattle.scenario_calls.specs.Calls.{Effect, Turn, first_of, or_else, or_next, saying, lending, set_local, local_said}
use Rattle.scenario_calls.specs.Calls.{with_local, with_held, with_numbers, with_slots, with_tables, Leaves, Answers}
use Rattle.scenario_calls.specs.Calls.{local_effect, stats_effect, wire_effect, publication_effect, message_effect}
use Rattle.scenario_calls.specs.Calls.{plain_effect, data_effect, process_effect, at_start}
use Rattle.scenario_calls.specs.Counters.{statistics_words}
use Rattle.scenario_calls.proofs.Kept.{effect_kept, uncounted}

abbrev has : {A : Type 0} → Option A → Bool
has none = false
has (some x) = true

some_not_none : {A : Type 0} {x : A} → some x ≡ none → ⊥
some_not_none e = true≢false (ap has e)

-- no answer, no words; an answer, some words
no_words : (ws : Option (List (List ℕ))) → None ≡ answered ws → ws ≡ none
no_words none e = refl
no_words (some ws) e = absurd (cc)

pub first_is : {A : Type 0} (ws : Option (List (List ℕ))) {u : Unit {0}} (e f : A) → Some u ≡ answered ws →
    first_of ws e f ≡ e
first_is none e f q = absurd (cc)
first_is (some ws) e f q = refl

-- an answer that was given
pub given : {r : Maybe (Unit {0})} → is_some r ≡ true → r ≡ Some tt
given {r = None} e = absurd (true≢false (sym e))
given {r = Some u} e = refl

pub not_given : {r : Maybe (Unit {0})} → is_some r ≡ false → r ≡ None
not_given {r = None} e = refl
not_given {r = Some u} e = absurd (true≢false e)

-- a line that says nothing leaves the state
pub record Stays (e : Turn) (x : State) : Type 0 where
  pub stays : e.words ≡ none → e.state ≡ x

module _ {e : Turn} {a b : Room} {r : Maybe (Unit {0})} {y : State} (l : Leaves e a r y b) where
  -- it was answered
  pub found : (f : Turn) → is_some r ≡ true → Leaves (or_next e f) a (Some tt) y b
  found f h =
      let w = subst (λ (q : Maybe (Unit {0})). Answered e.words a q b) (given h) l.words in
      subst (λ (t : Turn). Leaves t a (Some tt) y b) (sym (first_is e.words e f w.answers))
      (record { words = w; state = l.state })

  module _ (h : is_some r ≡ false) where
    silent : e.words ≡ none
    silent = no_words e.words (sym (not_given h) ∙ l.words.answers)

    empty : Fills [] a b
    empty = subst (λ (ws : Option (List (List ℕ))). Fills (pieces_of ws) a b) silent l.words.fills

    -- it was not: the next kind, in the same state and the same room
    pub then : {x z : State} {c : Room} {q : Maybe (Unit {0})} (f : State → Turn) → Stays e x → Leaves (f y) b q z c →
        Leaves (or_next e (f x)) a q z c
    then {x} {z} {c} {q} f s m =
        let same : y ≡ x = l.state ∙ s.stays silent in
        subst (λ (t : Turn). Leaves t a q z c)
        (ap f same ∙ sym (ap (λ (ws : Option (List (List ℕ))). first_of ws e (f x)) silent))
        (record { words = record { answers = m.words.answers; fills = empty ▹ m.words.fills }; state = m.state })

  -- the same effect in other words
  pub in_words : {f : Turn} → f ≡ e → Leaves f a r y b
  in_words q = subst (λ (t : Turn). Leaves t a r y b) (sym q) l

-- by the verb
pub by_verb : (b : Bool) (e f : Turn) {c : Bool} → b ≡ c → cond b e f ≡ cond c e f
by_verb b e f q = ap (λ (x : Bool). cond x e f) q

-- what was asked of listeners and sessions, where there are no words
nothing_asked : (q : Option Asked) (t : Tables) → md.words_of q t ≡ none → q ≡ none
nothing_asked none t e = refl
nothing_asked (some (calls c)) t e = absurd (some_not_none e)
nothing_asked (some (looks k)) t e = absurd (some_not_none e)

nothing_said : (q : Option publications.Said) → publications.words_of q ≡ none → q ≡ none
nothing_said none e = refl
nothing_said (some x) e = absurd (some_not_none e)

module _ (x : State) (s : List ℕ) where
  pub wire_stays : Stays (wire_effect x s) x
  unfolding wire_effect
  wire_stays = record { stays = λ n. refl }

  pub message_stays : Stays (message_effect x s) x
  unfolding message_effect
  message_stays =
      record {
        stays = λ n.
            ap
            (λ (q : Option Asked).
            with_tables (md.octets_left q x.tables) (md.statistics_of q (tables_of x.tables) x.statistics) x)
            (nothing_asked (asked_of x.local s) (tables_of x.tables) n);
      }

  pub publication_stays : Stays (publication_effect x s) x
  unfolding publication_effect
  publication_stays =
      record {
        stays = λ n.
            ap (λ (q : Option publications.Said). with_held (publications.held_after x.held q) x)
            (nothing_said (publications.publication_said x.held s) n);
      }

  -- each kind leaves what its call does
  module _ {a b : Room} {r : Maybe (Unit {0})} where
    pub messaged : {t : List ℕ} {n : Statistics} → md.Answers (asked_of x.local s) x.tables x.statistics a r t n b →
        Leaves (message_effect x s) a r (with_tables t n x) b
    unfolding message_effect
    messaged m =
        record {
          words = m.words;
          state = ap₂ (λ (u : List ℕ) (n : Statistics). with_tables u n x) m.leaves m.statistics;
        }

    pub published : {h : Maybe Publication} →
        publications.Publishes (publications.publication_said x.held s) x.held a r h b →
        Leaves (publication_effect x s) a r (with_held h x) b
    unfolding publication_effect
    published m = record { words = m.words; state = ap (λ (h : Maybe Publication). with_held h x) m.publication }

-- a line over lent memory that says nothing leaves state and memory
pub record Keeps (e : Effect) (x : State) (ds st : List ℕ) : Type 0 where
  pub keeps : e.words ≡ none → (e.state ≡ x) × (e.descriptions ≡ ds) × (e.store ≡ st)

-- its answer is put into a room, or it has none; state and memory are left as its effect says
pub record Left (e : Effect) (before : Room) (r : Maybe (Unit {0})) (x : State) (ds st : List ℕ) (after : Room) : Type 0
  where
    pub words : Answered e.words before r after
    pub state : x ≡ e.state
    pub descriptions : ds ≡ e.descriptions
    pub store : st ≡ e.store

module _ {e : Effect} {a b : Room} {r : Maybe (Unit {0})} {y : State} {ds st : List ℕ} (l : Left e a r y ds st b) where
  -- it was answered
  pub first_left : (f : Effect) → is_some r ≡ true → Answers (or_else e f) a y ds st b
  first_left f h =
      let w = subst (λ (q : Maybe (Unit {0})). Answered e.words a q b) (given h) l.words in
      subst (λ (t : Effect). Answers t a y ds st b) (sym (first_is e.words e f w.answers))
      (record { state = l.state; fills = w.fills; descriptions = l.descriptions; store = l.store })

  -- it was not: the next kind, in the same state, memory and room
  pub then_left : {x z : State} {ds₁ st₁ ds₂ st₂ : List ℕ} {c : Room} (f : State → List ℕ → List ℕ → Effect) →
      is_some r ≡ false → Keeps e x ds₁ st₁ → Answers (f y ds st) b z ds₂ st₂ c →
      Answers (or_else e (f x ds₁ st₁)) a z ds₂ st₂ c
  then_left {x} {z} {ds₁} {st₁} {ds₂} {st₂} {c} f h k m =
      let n = no_words e.words (sym (not_given h) ∙ l.words.answers) in
      let empty = subst (λ (ws : Option (List (List ℕ))). Fills (pieces_of ws) a b) n l.words.fills in
      let same = k.keeps n in
      let as_one : f y ds st ≡ f x ds₁ st₁ =
      ap (λ (v : State). f v ds st) (l.state ∙ same.0)
      ∙ ap₂ (λ (u w : List ℕ). f x u w) (l.descriptions ∙ same.1) (l.store ∙ same.2) in
      subst (λ (t : Effect). Answers t a z ds₂ st₂ c)
      (as_one ∙ sym (ap (λ (ws : Option (List (List ℕ))). first_of ws e (f x ds₁ st₁)) n))
      (record { state = m.state; fills = empty ▹ m.fills; descriptions = m.descriptions; store = m.store })

-- the last kind knows no lent memory
pub ended : {e : Turn} {a b : Room} {u : Unit {0}} {y : State} (ds st : List ℕ) → Leaves e a (Some u) y b →
    Answers (lending e ds st) a y ds st b
ended ds st l = record { state = l.state; fills = l.words.fills; descriptions = refl; store = refl }

-- a bad line
pub bad : {a b : Room} (x : State) → Fills (word "bad line") a b →
    Leaves (saying (some (word "bad line")) x) a (Some tt) x b
bad x f = record { words = record { answers = refl; fills = f }; state = refl }

-- what was said of the description run, where there are no words
run_unsaid : (q : Option description.Said) → description.words_of q ≡ none → q ≡ none
run_unsaid none e = refl
run_unsaid (some x) e = absurd (some_not_none e)

either_stays : {x : State} (b : Bool) {e f : Turn} → Stays e x → Stays f x → Stays (cond b e f) x
either_stays true p q = p
either_stays false p q = q

next_stays : {x : State} (ws : Option (List (List ℕ))) {e f : Turn} → Stays e x → Stays f x → Stays (first_of ws e f) x
next_stays none p q = q
next_stays (some ss) p q = p

set_stays : (x : State) (l : Option TopoCounts) → Stays (set_local l x) x
set_stays x none = record { stays = λ n. refl }
set_stays x (some l) = record { stays = λ n. absurd (some_not_none n) }

module _ (x : State) (s : List ℕ) where
  local_stays : Stays (local_effect x s) x
  unfolding local_effect
  local_stays = set_stays x (local_said s)

  stats_stays : Stays (stats_effect x s) x
  unfolding stats_effect
  stats_stays = record { stays = λ n. refl }

  pub plain_stays : Stays (plain_effect x s) x
  unfolding plain_effect
  plain_stays =
      either_stays (verb_is s (ascii "local")) local_stays
      (either_stays (verb_is s (ascii "stats")) stats_stays
      (next_stays (wire_effect x s).words (wire_stays x s)
      (next_stays (message_effect x s).words (message_stays x s) (publication_stays x s))))

-- with the memory lent
module _ (x : State) (ds st s : List ℕ) {a b : Room} {r : Maybe (Unit {0})} where
  pub run_left : {n : ℕ} {run : List ℕ} →
      description.Describes (description.data_said x.numbers ds s) x.numbers ds a r n run b →
      Left (data_effect x ds st s) a r (with_numbers n x) run st b
  unfolding data_effect
  run_left m =
      record {
        words = m.words;
        state = ap (λ (n : ℕ). with_numbers n x) m.counted;
        descriptions = m.lent;
        store = refl;
      }

  pub slots_left : {t : Slots} {n : Statistics} {left : List ℕ} →
      pd.Answered x.local s x.slots st x.statistics a r t left n b →
      Left (process_effect x ds st s) a r (with_slots t n x) ds left b
  unfolding process_effect
  slots_left m =
      record {
        words = m.turns.words;
        state = ap₂ (λ (t : Slots) (n : Statistics). with_slots t n x) m.turns.slots-after m.statistics-after;
        descriptions = refl;
        store = m.turns.store-after;
      }

module _ (x : State) (ds st s : List ℕ) where
  pub data_keeps : Keeps (data_effect x ds st s) x ds st
  unfolding data_effect
  data_keeps =
      record {
        keeps = λ n.
            let e = run_unsaid (description.data_said x.numbers ds s) n in (
              ap (λ (q : Option description.Said). with_numbers (description.numbers_after x.numbers q) x) e,
              ap (description.run_after ds) e,
              refl,
            );
      }

  pub process_keeps : Keeps (process_effect x ds st s) x ds st
  unfolding process_effect
  process_keeps =
      record {
        keeps = λ n.
            let k = (effect_kept x.local s x.slots st).kept n in (
              ap₂ (λ (t : Slots) (m : Statistics). with_slots t m x) k.0
                  (uncounted x.local s x.slots st x.statistics n),
              refl,
              k.1,
            );
      }

-- the counters that two numbers are, where the line ends behind them
abbrev pub counters_of : List ℕ → List ℕ → Option TopoCounts
counters_of xs left = with_end left (record { etb_topo_cnt = get_or xs 0 0; op_trn_topo_cnt = get_or xs 1 0 })

pub said_local : (s : List ℕ) → local_said s ≡ with_words 2 (drop 5 s) counters_of
unfolding local_said
said_local s = refl

module _ (x : State) (s : List ℕ) where
  pub local_unsaid : {a : Room} {r : Maybe (Unit {0})} → r ≡ None → with_words 2 (drop 5 s) counters_of ≡ none →
      Leaves (local_effect x s) a r x a
  unfolding local_effect
  local_unsaid {a} {r} q e =
      subst (λ (l : Option TopoCounts). Leaves (set_local l x) a r x a) (sym (said_local s ∙ e))
      (record { words = unanswered a q refl; state = refl })

  pub local_set : {a b : Room} (l : TopoCounts) → with_words 2 (drop 5 s) counters_of ≡ some l → Fills (word "ok") a b →
      Leaves (local_effect x s) a (Some tt) (with_local l x) b
  unfolding local_effect
  local_set {a} {b} l e f =
      subst (λ (q : Option TopoCounts). Leaves (set_local q x) a (Some tt) (with_local l x) b)
      (sym (said_local s ∙ e))
      (record { words = answered_by refl f; state = refl })

  stats_words : (b : Bool) → eqb (length s) 5 ≡ b →
      (stats_effect x s).words ≡ cond b (some (statistics_words x.statistics)) none
  unfolding stats_effect
  stats_words b e = ap (λ (c : Bool). cond c (some (statistics_words x.statistics)) none) e

  -- the verb alone, or not
  pub stats_unsaid : {a : Room} → eqb (length s) 5 ≡ false → Leaves (stats_effect x s) a None x a
  unfolding stats_effect
  stats_unsaid {a} e = record { words = not_answered (stats_words false e) a; state = refl }

  pub stats_said : {a b : Room} → eqb (length s) 5 ≡ true → Fills (statistics_words x.statistics) a b →
      Leaves (stats_effect x s) a (Some tt) x b
  unfolding stats_effect
  stats_said e f = record { words = answered_by (stats_words true e) f; state = refl }

-- before the first line
slots_are : {t : Slots} {rs : List Subscription} {m n : ℕ} → (t.records ≡ rs) × (t.lent ≡ m) × (t.octets ≡ n) →
    t ≡ record { records = rs; lent = m; octets = n }
slots_are {t} {rs} {m} x =
    ap (λ (r : List Subscription). record { records = r; lent = t.lent; octets = t.octets }) x.0
    ∙ ap₂ (λ (l o : ℕ). record { records = rs; lent = l; octets = o }) x.1 x.2

pub started : {t : Slots} {n : Statistics} →
    (t.records ≡ replicate 40 free_record) × (t.lent ≡ 32) × (t.octets ≡ 45824) → n ≡ no_statistics →
    record {
      local = record { etb_topo_cnt = 0; op_trn_topo_cnt = 0 };
      held = None;
      numbers = 0;
      slots = t;
      tables = replicate 1280 0;
      statistics = n;
    } ≡ at_start
unfolding at_start
started x z =
    ap₂
    (λ (t : Slots) (n : Statistics). record {
      local = record { etb_topo_cnt = 0; op_trn_topo_cnt = 0 };
      held = None;
      numbers = 0;
      slots = t;
      tables = replicate 1280 0;
      statistics = n;
    })
    (slots_are x)
    z
