-- A frame's datagram has at most as many octets as the buffer, and stands in its first.
use Rattle.std.proofs.Common.{sym, ◌∙◌}
use Rattle.capture.specs.declared.Frame.{Frame}
use Rattle.capture.proofs.Frames.{frame-room}
use Rattle.listing.proofs.Lines.{first-octets, lists-frame}
use Rattle.listing.proofs.Listing.list.Goals as goal

pub shared_ref_as_front-receive : goal.shared_ref_as_front-receive
shared_ref_as_front-receive c =
    frame-room c.args.s.now c.in-Some.f (sym c.in-Some.is ∙ c.read_frame.ensures.answer)

pub returns-in-Some-clause-lists : goal.returns-in-Some-clause-lists
returns-in-Some-clause-lists c =
    let s = c.args.s.now in
    let f : Frame = c.in-Some.f in
    let e = sym c.in-Some.is ∙ c.read_frame.ensures.answer in
    lists-frame s f e
    (first-octets s c.args.buffer.now c.read_frame.new.buffer f e c.read_frame.ensures.buffer)
    c.receive.ensures
