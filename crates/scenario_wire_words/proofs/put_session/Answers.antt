-- Identifier and URIs are those of the datagram.
use Rattle.std.proofs.Common.{◌≡◌, ℕ, List, ◌++◌, ap, ◌∙◌, rules}
use mir.Facts.{to_z-of_z}
use mir.Val.{of_z, to_z}
use mir.Syntax.{w32}
use Rattle.octets.specs.Octets.{unsigned}
use Rattle.md.specs.declared.MdHeader.{MdHeader}
use Rattle.md.specs.Md.{session_id_of, source_uri_of, destination_uri_of}
use Rattle.answer.specs.Answer.{number, octets}
use Rattle.answer.proofs.Rooms.{filled_as, ◌▹◌}
use Rattle.scenario_wire_words.specs.Words.{session_words}
use Rattle.scenario_wire_words.proofs.put_session.Goals as goal

module _ (h : MdHeader) (d : List ℕ) {x : ℕ} {i u v : List ℕ} where
  says : x ≡ unsigned h.reply_status → i ≡ session_id_of d → u ≡ source_uri_of d → v ≡ destination_uri_of d →
      (number 8 x ++ octets i ++ number 8 h.reply_timeout ++ octets u ++ octets v) ≡ session_words h d
  unfolding session_words
  says e1 e2 e3 e4 = rw (e1, e2, e3, e4)

pub returns : goal.returns
returns c =
    let a = c.args in
    let b : to_z w32 (of_z w32 a.h.reply_status) ≡ a.h.reply_status = to_z-of_z {w = w32} (search rules) in
    let status = c.to_unsigned.ensures ∙ ap unsigned b in
    let said = says a.h a.d.now status c.session_id.ensures c.source_uri.ensures c.destination_uri.ensures in
    filled_as (session_words a.h a.d.now) said
    (c.number.ensures ▹ c.octets.ensures ▹ c.number-2.ensures ▹ c.octets-2.ensures ▹ c.octets-3.ensures)
