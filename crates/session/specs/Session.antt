-- One session. Document 01, Message sessions.
use Rattle.std.specs.Prelude.{ℕ, Bool, true, false, cond, not, ◌&&◌, ◌||◌, List, eqb, ℤ, pos, negsuc, replicate}
use Rattle.md.specs.Uri.{equal}
use Rattle.timing.specs.Timing.{time_up}
use Rattle.timing.specs.declared.Timing.{Timing}
use Rattle.session.specs.declared.Kind.{Kind}
use Rattle.session.specs.declared.Kind.TheVariants.{Mn, Mr, Mp, Mq, Mc, Me}
use Rattle.session.specs.declared.Session.{Session}
use Rattle.session.specs.declared.SessionState.{SessionState}
use Rattle.session.specs.declared.Waits.{Waits}
use Rattle.session.specs.declared.Waits.TheVariants.{Reply, Confirm}
use Rattle.session.specs.declared.SessionState.TheVariants.{Free, WaitingForReply, OwingConfirm, WithUser, WaitingForConfirm}

-- a free session is one fixed value
abbrev pub free_session : Session
free_session = record { id = replicate 16 0; state = Free }

abbrev pub is_free : SessionState → Bool
is_free Free = true
is_free (WaitingForReply t) = false
is_free (OwingConfirm t) = false
is_free (WithUser t) = false
is_free (WaitingForConfirm t) = false

abbrev pub waits_for_reply : SessionState → Bool
waits_for_reply Free = false
waits_for_reply (WaitingForReply t) = true
waits_for_reply (OwingConfirm t) = false
waits_for_reply (WithUser t) = false
waits_for_reply (WaitingForConfirm t) = false

abbrev pub owes_confirm : SessionState → Bool
owes_confirm Free = false
owes_confirm (WaitingForReply t) = false
owes_confirm (OwingConfirm t) = true
owes_confirm (WithUser t) = false
owes_confirm (WaitingForConfirm t) = false

abbrev pub is_with_user : SessionState → Bool
is_with_user Free = false
is_with_user (WaitingForReply t) = false
is_with_user (OwingConfirm t) = false
is_with_user (WithUser t) = true
is_with_user (WaitingForConfirm t) = false

abbrev pub waits_for_confirm : SessionState → Bool
waits_for_confirm Free = false
waits_for_confirm (WaitingForReply t) = false
waits_for_confirm (OwingConfirm t) = false
waits_for_confirm (WithUser t) = false
waits_for_confirm (WaitingForConfirm t) = true

-- in use, in any state, with that identifier
unfoldable pub has : List ℕ → Session → Bool
has id x = not (is_free x.state) && equal x.id id

-- the code of a session whose time is up: -6 waiting for reply, -8 waiting for confirm, -2 the other two; 0 not freed
abbrev pub code_of : ℕ → SessionState → ℤ
code_of time Free = pos 0
code_of time (WaitingForReply t) = cond (time_up t time) (negsuc 5) (pos 0)
code_of time (OwingConfirm t) = cond (time_up t time) (negsuc 1) (pos 0)
code_of time (WithUser t) = cond (time_up t time) (negsuc 1) (pos 0)
code_of time (WaitingForConfirm t) = cond (time_up t time) (negsuc 7) (pos 0)

-- a session's time is up
abbrev pub is_up : ℕ → SessionState → Bool
is_up time Free = false
is_up time (WaitingForReply t) = time_up t time
is_up time (OwingConfirm t) = time_up t time
is_up time (WithUser t) = time_up t time
is_up time (WaitingForConfirm t) = time_up t time

-- a time check frees every session whose time is up
abbrev pub expired : ℕ → Session → Session
expired time x = cond (is_up time x.state) free_session x

-- what an incoming reply or confirm asks of a session
abbrev pub waits_of : Waits → SessionState → Bool
waits_of Reply s = waits_for_reply s
waits_of Confirm s = waits_for_confirm s

-- a session of that identifier that can take this
abbrev pub can_take : (SessionState → Bool) → List ℕ → Session → Bool
can_take in' id x = has id x && in' x.state

-- 5 if neither Mp nor Mq
abbrev pub is_reply : ℕ → Bool
is_reply type = eqb type 0x4D70 || eqb type 0x4D71

-- with Mp frees, with Mq waits for confirm with the user's timeout
abbrev pub answered : ℕ → ℕ → ℕ → Session → Session
answered type timeout time x =
    cond (eqb type 0x4D70) free_session
    (record { id = x.id; state = WaitingForConfirm (record { start = time; timeout = timeout }) })

-- ---- the types

-- the six types; checks 2 to 6 let no other in
unfoldable pub kind_of : ℕ → Kind
kind_of t =
    cond (eqb t 0x4D6E) Mn
    (cond (eqb t 0x4D72) Mr (cond (eqb t 0x4D70) Mp (cond (eqb t 0x4D71) Mq (cond (eqb t 0x4D63) Mc Me))))

-- ---- a state's number and timing

-- 0 free, 1 waiting for reply, 2 owing a confirm, 3 with the user, 4 waiting for confirm
abbrev pub state_number : SessionState → ℕ
state_number Free = 0
state_number (WaitingForReply t) = 1
state_number (OwingConfirm t) = 2
state_number (WithUser t) = 3
state_number (WaitingForConfirm t) = 4

-- start and timeout of a waiting state; zeros of a free one
abbrev pub timing_of : SessionState → Timing
timing_of Free = record { start = 0; timeout = 0 }
timing_of (WaitingForReply t) = t
timing_of (OwingConfirm t) = t
timing_of (WithUser t) = t
timing_of (WaitingForConfirm t) = t
