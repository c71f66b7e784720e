-- The run holds the elements, and each test is one that `malformed` makes.
use Rattle.std.proofs.Common.{refl, sym, ◌∙◌, le-leb}
use borrow.Author.Tests.{lt-leb}
use mathlib.Core.Bool.{or-true}
use Rattle.dataset.proofs.description.Goals.{then-id-le16-via-then-id-le16, then-id-le16-via-else-id-le16+then-is_empty}
use Rattle.dataset.proofs.description.Goals.{then-id-le16-via-else-id-le16+else-is_empty+then-has_no_type}
use Rattle.dataset.proofs.Descriptions.{headed-is}
use Rattle.dataset.proofs.description.Goals as goal

pub returns-then-id-le16 : goal.returns-then-id-le16
returns-then-id-le16 c =
    let e = c.in_ok-elements in
    let m = c.as_chunks in
    let h = headed-is c.args.run.now e.elements.now e.rest.now m.result.0.now c.in-len2-up.len_at_least e.ensures.cases
    m.ensures.front m.ensures.front_len in
    elim c.then-id-le16.branch [
      | then-id-le16-via-then-id-le16 w ↦ rw (h, le-leb _ 16 w.if-id-le16.true) refl
      | then-id-le16-via-else-id-le16+then-is_empty w ↦
          rw (h, sym w.is_empty.ensures ∙ w.if-is_empty.true, or-true) refl
      | then-id-le16-via-else-id-le16+else-is_empty+then-has_no_type w ↦
          rw (h, sym w.has_no_type.ensures ∙ w.if-has_no_type.true, or-true) refl
    ]

pub returns : goal.returns
returns c =
    let e = c.in_ok-elements in
    let m = c.as_chunks in
    let h = headed-is c.args.run.now e.elements.now e.rest.now m.result.0.now c.in-len2-up.len_at_least e.ensures.cases
    m.ensures.front m.ensures.front_len in
    rw (
      h,
      lt-leb _ 16 c.if-id-le16.false,
      sym c.is_empty.ensures ∙ c.if-is_empty.false,
      sym c.has_no_type.ensures ∙ c.if-has_no_type.false,
    ) refl
