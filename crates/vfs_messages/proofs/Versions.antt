-- What an INIT asks by its version, and what comes of one whose version is known.
use Rattle.std.proofs.Common.{◌≡◌, ◌≤◌, ◌<◌, ◌∙◌, ℕ, true, false, nat_lt, arith, List, length, Option, None, Some, Result, Ok, ap, refl, sym, subst}
use Rattle.std.proofs.lemmas.Bool.Decides.{nat_tests}
use Rattle.vfs_flags.specs.Numbers.{eproto}
use Rattle.vfs_flags.specs.declared.constants.TheConstants.{KERNEL_VERSION, MIN_KERNEL_MINOR_VERSION}
use Rattle.vfs_wire.specs.Fields.{bytes_of}
use Rattle.vfs_wire.specs.Records.{init_out}
use Rattle.vfs_wire.specs.declared.headers.InHeader.{InHeader}
use Rattle.vfs_wire.specs.declared.init.InitInCompat.{InitInCompat}
use Rattle.vfs_segments.specs.Written.{Written}
use Rattle.vfs_files.specs.Calls.{Call}
use Rattle.vfs_grammar.specs.Forms.{Ends, Asks, ask_version, faulted}
use Rattle.vfs_grammar.specs.Reply.{Reply, Bytes, Echo, body_reply, version_out}
use Rattle.vfs_grammar.specs.declared.error.Error.{Error}
use Rattle.vfs_grammar.proofs.Rooms.{put_outcome-fits}
use Rattle.vfs_messages.specs.Rooms.{Replies}
use Rattle.vfs_messages.specs.Versions.{AnswersVersion}

module _ (h : InHeader) (r : InitInCompat) (flags2 : ℕ) where
  pub older_major : r.major < KERNEL_VERSION → ask_version h r flags2 ≡ faulted eproto h
  older_major below =
      let test : nat_lt r.major KERNEL_VERSION ≡ true = grind (arith, nat_tests) in
      rw test refl

  pub newer_major : KERNEL_VERSION < r.major → ask_version h r flags2 ≡ Ends (Bytes (body_reply (bytes_of init_out version_out) h.unique))
  newer_major above =
      let not_below : nat_lt r.major KERNEL_VERSION ≡ false = grind (arith, nat_tests) in
      let test : nat_lt KERNEL_VERSION r.major ≡ true = grind (arith, nat_tests) in
      rw (not_below, test) refl

  pub older_minor : r.major ≡ KERNEL_VERSION → r.minor < MIN_KERNEL_MINOR_VERSION → ask_version h r flags2 ≡ faulted eproto h
  older_minor same below =
      let not_below : nat_lt r.major KERNEL_VERSION ≡ false = grind (arith, nat_tests) in
      let not_above : nat_lt KERNEL_VERSION r.major ≡ false = grind (arith, nat_tests) in
      let test : nat_lt r.minor MIN_KERNEL_MINOR_VERSION ≡ true = grind (arith, nat_tests) in
      rw (not_below, not_above, test) refl

-- one that ends by this reply, which fits
pub version_ends : (h : InHeader) (r : InitInCompat) (old : Written) (result : Option (Result ℕ Error)) (new : Written) (reply : List ℕ)
    → ask_version h r 0 ≡ Ends (Bytes reply) → length reply ≤ length old.left → AnswersVersion h r old result new
    → result ≡ Some (Ok (length reply))
version_ends h r old (Some outcome) new reply e fits a =
    let ends : Ends a.reply ≡ Ends (Bytes reply) = sym (a.ends 0) ∙ e in
    let same : a.reply ≡ Bytes reply = cc in
    let put : Replies (Bytes reply) old outcome new = subst (λ (x : Reply). Replies x old outcome new) same a.replied in
    ap Some (put.says.says ∙ put_outcome-fits reply old.left fits)
version_ends h r old None new reply e fits a = absurd (let same = sym (a.asks 0) ∙ e in cc)

-- one that asks for this call
pub version_asks : (h : InHeader) (r : InitInCompat) (old : Written) (result : Option (Result ℕ Error)) (new : Written) (echo : Echo) (call : Call)
    → ask_version h r 0 ≡ Asks echo call → AnswersVersion h r old result new → (result ≡ None) × (new ≡ old)
version_asks h r old (Some outcome) new echo call e a = absurd (let same = sym (a.ends 0) ∙ e in cc)
version_asks h r old None new echo call e a = (refl, a.same)
