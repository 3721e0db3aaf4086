use Rattle.awk_check.proofs.run_told.run_and_tell.Goals as goal

pub returns : goal.returns
returns g c =
    let state = g.W.World.state in
    record {
      ended = state c.main_words_watched-status.new.world;
      runs = c.main_words_watched-status.ensures;
      told = λ t. (_, (c.print_error.ensures.told t).writes);
    }
