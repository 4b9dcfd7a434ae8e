-- That `write_u64` writes what its bytes do.
use Rattle.std.proofs.Common.{ap, sym, ◌∙◌}
use Rattle.std.specs.Prelude.{bit_xor}
use Rattle.number_hashing.proofs.NumberBytes.{eight-bytes, hasher-at}
use Rattle.number_hashing.proofs.hasher.NumberHasherHasher.write_u64.Goals as goal
use Rattle.number_hashing.specs.Numbers.{number_hash}

pub returns : goal.returns
returns c =
    ap hasher-at (c.number_hash-self.ensures ∙ ap (λ n. number_hash (bit_xor c.args.self.now.state n)) (sym (eight-bytes c.args.i c.ranges.i.fits)))
