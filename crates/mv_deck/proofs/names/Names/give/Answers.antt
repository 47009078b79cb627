use Rattle.std.proofs.Common.{Some}
use Rattle.std.proofs.lemmas.Map.Text.{hash_map_updates_str}
use Rattle.mv_deck.proofs.names.Names.give.Goals as goal

pub returns : goal.returns
returns c = λ other. hash_map_updates_str c.args.name.now c.args.self.now.places c.insert.new.self
    (Some c.args.place) c.in_ok-insert.ensures.updates other
