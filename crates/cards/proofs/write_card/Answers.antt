-- `write_card`: the storage has room for the factors, and the buffer for the card.
use mathlib.Core.Path.{refl}
use native.Mathlib.Omega.{arith}
use lib.ListN.{length}
use Rattle.api.specs.Answers.{state_of}
use Rattle.cards.proofs.Passed.{may_write}
use Rattle.cards.proofs.Outcomes.{written}
use Rattle.cards.proofs.write_card.Goals as goal

pub invariant_of-l : goal.invariant_of-l
invariant_of-l c =
    let p = may_write (state_of c.args.state) (length c.args.l.now) (length c.args.u.now) (length c.args.card.now) c.in_ok-bytes.bytes (c.in_ok-bytes.ensures {u = tt}) in
    record { stride_fits = p.storage.capacity; dimension = p.storage.dimension; long = omega (arith, p.storage.L) }

pub invariant_of-u : goal.invariant_of-u
invariant_of-u c =
    let p = may_write (state_of c.args.state) (length c.args.l.now) (length c.args.u.now) (length c.args.card.now) c.in_ok-bytes.bytes (c.in_ok-bytes.ensures {u = tt}) in
    record { stride_fits = p.storage.capacity; dimension = p.storage.dimension; long = p.storage.U }

pub put_card-requires : goal.put_card-requires
put_card-requires c =
    let p = may_write (state_of c.args.state) (length c.args.l.now) (length c.args.u.now) (length c.args.card.now) c.in_ok-bytes.bytes (c.in_ok-bytes.ensures {u = tt}) in
    (refl, p.needed, p.room)

pub returns : goal.returns
returns c =
    let p = may_write (state_of c.args.state) (length c.args.l.now) (length c.args.u.now) (length c.args.card.now) c.in_ok-bytes.bytes (c.in_ok-bytes.ensures {u = tt}) in
    written (state_of c.args.state) c.args.l.now c.args.u.now c.args.card.now _ c.in_ok-bytes.bytes p c.put_card.ensures
