use Rattle.std.proofs.Common.{arith, ◌∙◌, List, ℕ, ap, take, append-nil}
use Rattle.std.proofs.lemmas.Grind.{common_steps}
use Rattle.vfs_server.proofs.Served.{stepped, refused}
use Rattle.vfs_server.proofs.transport.serve.Goals as goal

pub returns-in_err-len-clause-served : goal.returns-in_err-len-clause-served
returns-in_err-len-clause-served g c =
    refused _ _ _ _ _ c.in_err-len.field-0.0 _ c.handle_message.new.w _ c.from_residual-in_err-len.ensures
    (stepped _ _ _ _ _ _ c.in_ok-writer.writer c.handle_message.result _ _ _
    (c.in_ok-reader.ensures.ok.0 ∙ append-nil c.args.request.now) c.in_ok-writer.ensures.ok c.in_err-len.was
    c.handle_message.ensures.step c.handle_message.ensures.directories)

pub returns-clause-served : goal.returns-clause-served
returns-clause-served g c = record {
  len = c.in_ok-len.len;
  after = c.handle_message.new.w;
  stepped =
      stepped _ _ _ _ _ _ c.in_ok-writer.writer c.handle_message.result _ _ _
      (c.in_ok-reader.ensures.ok.0 ∙ append-nil c.args.request.now) c.in_ok-writer.ensures.ok c.in_ok-len.was
      c.handle_message.ensures.step c.handle_message.ensures.directories;
  bytes = c.first_bytes.ensures ∙ ap (λ (bytes : List ℕ). take c.in_ok-len.len bytes) c.into_segments.ensures.bytes;
}

pub returns-clause-fits : goal.returns-clause-fits
returns-clause-fits g c = grind (arith, common_steps)
