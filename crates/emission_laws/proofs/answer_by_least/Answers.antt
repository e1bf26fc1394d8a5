use Rattle.emission_laws.proofs.Answering.{limited, idle, least, live, out}
use Rattle.emission_laws.proofs.Order.{order}
use Rattle.emission_laws.proofs.Waiting.{ordinals-rise, waits-where}
use Rattle.emission_laws.proofs.answer_by_least.Goals as goal

pub returns : goal.returns
returns c =
    record {
      limited = limited;
      idle = idle;
      least = least;
      live = live;
      out = out;
      waits = waits-where;
      ordinals = ordinals-rise;
      order = order;
    }
