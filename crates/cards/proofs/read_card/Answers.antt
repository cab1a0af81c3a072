-- `read_card`: the storage has room for the card's factors, and the card has all its blocks.
use native.Mathlib.Omega.{arith}
use lib.ListN.{length}
use Rattle.card_format.proofs.Cards.{entry_room}
use Rattle.cards.proofs.Passed.{may_read}
use Rattle.cards.proofs.Outcomes.{read}
use Rattle.cards.proofs.read_card.Goals as goal

pub read_l-requires-clause-stride_fits : goal.read_l-requires-clause-stride_fits
read_l-requires-clause-stride_fits c =
    let p = may_read c.args.capacity (length c.args.l.now) (length c.args.u.now) c.args.card.now c.in_ok-n.n (c.in_ok-n.ensures {u = tt}) in
    (p.storage.dimension, p.storage.capacity)

pub read_l-requires-clause-long : goal.read_l-requires-clause-long
read_l-requires-clause-long c =
    let p = may_read c.args.capacity (length c.args.l.now) (length c.args.u.now) c.args.card.now c.in_ok-n.n (c.in_ok-n.ensures {u = tt}) in
    omega (arith, p.storage.L)

pub read_l-requires-clause-entries : goal.read_l-requires-clause-entries
read_l-requires-clause-entries c =
    let p = may_read c.args.capacity (length c.args.l.now) (length c.args.u.now) c.args.card.now c.in_ok-n.n (c.in_ok-n.ensures {u = tt}) in
    omega (arith, p.long, entry_room c.in_ok-n.n)

pub read_u-requires-clause-stride_fits : goal.read_u-requires-clause-stride_fits
read_u-requires-clause-stride_fits c =
    let p = may_read c.args.capacity (length c.args.l.now) (length c.args.u.now) c.args.card.now c.in_ok-n.n (c.in_ok-n.ensures {u = tt}) in
    (p.storage.dimension, p.storage.capacity)

pub read_u-requires-clause-long : goal.read_u-requires-clause-long
read_u-requires-clause-long c =
    let p = may_read c.args.capacity (length c.args.l.now) (length c.args.u.now) c.args.card.now c.in_ok-n.n (c.in_ok-n.ensures {u = tt}) in
    p.storage.U

pub read_u-requires-clause-entries : goal.read_u-requires-clause-entries
read_u-requires-clause-entries c =
    let p = may_read c.args.capacity (length c.args.l.now) (length c.args.u.now) c.args.card.now c.in_ok-n.n (c.in_ok-n.ensures {u = tt}) in
    omega (arith, p.long, entry_room c.in_ok-n.n)

pub word_at-requires : goal.word_at-requires
word_at-requires c =
    let p = may_read c.args.capacity (length c.args.l.now) (length c.args.u.now) c.args.card.now c.in_ok-n.n (c.in_ok-n.ensures {u = tt}) in
    omega (arith, p.long, entry_room c.in_ok-n.n)

pub returns : goal.returns
returns c =
    let p = may_read c.args.capacity (length c.args.l.now) (length c.args.u.now) c.args.card.now c.in_ok-n.n (c.in_ok-n.ensures {u = tt}) in
    read c.args.capacity c.args.l.now c.args.u.now c.args.card.now c.in_ok-n.n _ _ _ p c.read_l.ensures c.read_u.ensures c.word_at.ensures
