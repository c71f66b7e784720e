-- One listener. Document 01, Message sessions.
use Rattle.std.specs.Prelude.{ℕ, Bool, true, false, ◌&&◌, ◌||◌, List, eqb, replicate}
use Rattle.address.specs.SenderRange.{admits, same}
use Rattle.address.specs.declared.SenderRange.{SenderRange}
use Rattle.md.specs.Uri.{same_uri, empty}
use Rattle.session.specs.declared.Listener.{Listener}

-- a free listener is one fixed value
abbrev pub free_listener : Listener
free_listener = record { used = false; com_id = 0; senders = record { start = 0; end = 0 }; uri = replicate 32 0 }

-- ComId, sender range, destination URI
abbrev pub new_listener : ℕ → SenderRange → List ℕ → Listener
new_listener com_id senders uri = record { used = true; com_id = com_id; senders = senders; uri = uri }

-- in use, and its ComId, its sender range and its destination URI (empty: any) match
abbrev pub hears : ℕ → ℕ → List ℕ → Listener → Bool
hears com_id sender destination l =
    l.used && eqb l.com_id com_id && admits l.senders sender && (empty l.uri || same_uri l.uri destination)

-- 12: a filter equal in every field is in use
abbrev pub holds : ℕ → SenderRange → List ℕ → Listener → Bool
holds com_id senders uri l = l.used && eqb l.com_id com_id && same l.senders senders && same_uri l.uri uri
