use Rattle.uri_form.proofs.AddressLaws.{robots_class, robots_key_is}
use Rattle.uri_form.proofs.laws.a_robots_file_is_known_by_its_class.Goals as goal

pub returns-clause-class : goal.returns-clause-class
returns-clause-class c = robots_class c.args.uri.now c.requires

pub returns-clause-key : goal.returns-clause-key
returns-clause-key c = robots_key_is c.args.uri.now c.requires
