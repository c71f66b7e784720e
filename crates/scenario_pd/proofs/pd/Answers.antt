-- Two words and the time, and the octets behind them.
use mathlib.Core.Path.{refl, ◌∙◌}
use mathlib.Core.List.{List}
use mathlib.Core.Option.{Option}
use Prim.Native.Nat.{ℕ}
use lib.ListN.{get_or}
use Rattle.topography.specs.declared.TopoCounts.{TopoCounts}
use Rattle.answer.specs.Answer.{ascii}
use Rattle.answer.proofs.Rooms.{filled_as}
use Rattle.line.specs.Line.{with_number, with_octets}
use Rattle.line.proofs.Fields.{number_none, last_none, last_some}
use Rattle.subscription_table.specs.Table.{Call, telegram, delivered}
use Rattle.scenario_pd_words.proofs.Done.{said_granted}
use Rattle.scenario_pd.specs.Lines.{pd_call}
use Rattle.scenario_pd.proofs.Fields.{number_said, words_unsaid, words_said}
use Rattle.scenario_pd.proofs.Turning.{turned, counted, uncalled, uncounted}
use Rattle.scenario_pd.proofs.pd.Goals as goal

-- what a line says behind its words
abbrev behind : TopoCounts → List ℕ → List ℕ → Option Call
behind counters w left =
    with_number left 16 (λ time left.
    with_octets left
    (telegram (record { sender = get_or w 0 0; destination = get_or w 1 0; time = time; local = counters })))

pub returns-in_err-sender : goal.returns-in_err-sender
unfolding pd_call
returns-in_err-sender c =
    let a = c.args in
    let e = words_unsaid 2 (behind a.local) c.behind-fields.ensures c.in_err-sender.ensures.words in
    record {
      turns = uncalled a.t.now a.store.now a.out.now c.from_residual.ensures e;
      counts = uncounted a.t.now a.store.now a.statistics.now e;
    }

pub returns-in_err-time : goal.returns-in_err-time
unfolding pd_call
returns-in_err-time c =
    let a = c.args in
    let w = c.in_ok-sender.ensures in
    let e =
    words_said 2 (behind a.local) c.behind-fields.ensures w.words w.rest ∙ number_none _ refl c.in_err-time.ensures in
    record {
      turns = uncalled a.t.now a.store.now a.out.now c.from_residual-in_err-time.ensures e;
      counts = uncounted a.t.now a.store.now a.statistics.now e;
    }

pub returns-in_err-n : goal.returns-in_err-n
unfolding pd_call
returns-in_err-n c =
    let a = c.args in
    let w = c.in_ok-sender.ensures in
    let e =
    words_said 2 (behind a.local) c.behind-fields.ensures w.words w.rest ∙ number_said _ refl c.in_ok-time.ensures
    ∙ last_none _ _ c.buffer-data.result c.buffer-data.ensures.value c.in_err-n.ensures.value in
    record {
      turns = uncalled a.t.now a.store.now a.out.now c.from_residual-in_err-n.ensures e;
      counts = uncounted a.t.now a.store.now a.statistics.now e;
    }

pub returns : goal.returns
unfolding pd_call
returns c =
    let a = c.args in
    let w = c.in_ok-sender.ensures in
    let r = c.receive in
    let e =
    words_said 2 (behind a.local) c.behind-fields.ensures w.words w.rest ∙ number_said _ refl c.in_ok-time.ensures
    ∙ last_some _ _ c.in_ok-n.n c.buffer-data.result c.last.new.target c.buffer-data.ensures.value
    c.in_ok-n.ensures.value c.in_ok-n.ensures.target_after in
    record {
      turns =
          turned a.t.now a.store.now e r.ensures.serves
          (filled_as _ (said_granted delivered (ascii "delivered") (λ n. refl) r.result) c.granted.ensures);
      counts = counted a.t.now a.store.now e r.ensures;
    }
