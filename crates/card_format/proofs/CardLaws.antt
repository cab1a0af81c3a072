-- The laws of request (b) hold.
use Rattle.card_format.specs.CardLaws.{CardLaws}
use Rattle.card_format.proofs.Writing.{writing_same, writing_injective, writing_long, writing_bytes, writing_accepted, writing_read, accepted_writing, reading_writable}
use Rattle.card_format.proofs.Tests.{lowest_named, named_lowest}
use Rattle.card_format.proofs.Damage.{damage_refused}

pub card_laws : CardLaws
card_laws = record {
  same_bytes = writing_same;
  same_state = writing_injective;
  long = λ S. (writing_long S, writing_bytes S);
  accepted = writing_accepted;
  read_back = writing_read;
  is_writing = λ bytes fit e. (accepted_writing bytes fit e, reading_writable bytes fit e);
  lowest = named_lowest;
  named = lowest_named;
  damage = λ old new fit fit' e b k hb hk d. damage_refused old new fit fit' b k d e hb hk;
}
