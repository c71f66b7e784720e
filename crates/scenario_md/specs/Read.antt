-- What a line was read as, and what that asks.
use Rattle.std.specs.Prelude.{Option as Given, Some, None}
use Rattle.std.proofs.Math.Option.{Option, none, some}
use Rattle.session_table.specs.Table.{listen, unlisten, calling, reply, confirm, time_check}
use Rattle.scenario_md.specs.declared.Asked.{Asked as Read}
use Rattle.scenario_md.specs.declared.Asked.TheVariants as read
use Rattle.scenario_md.specs.Lines.{Asked, calls, looks}

-- a call on the tables, or a look at a session
abbrev pub asked_by : Read → Asked
asked_by (read.Listen com_id senders uri) = calls (listen com_id senders uri)
asked_by (read.Unlisten k) = calls (unlisten k)
asked_by (read.Call id timeout time) = calls (calling id timeout time)
asked_by (read.Reply session msg_type timeout time) = calls (reply session msg_type timeout time)
asked_by (read.Confirm session) = calls (confirm session)
asked_by (read.Check time) = calls (time_check time)
asked_by (read.Session k) = looks k

-- .. where there is one
abbrev pub asked_if : Given Read → Option Asked
asked_if None = none
asked_if (Some x) = some (asked_by x)
