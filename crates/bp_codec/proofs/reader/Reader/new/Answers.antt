use Rattle.std.proofs.Common.{refl}
use Rattle.bp_value.specs.Form.{form_of}
use Rattle.bp_codec.proofs.Pieces.{new_fed}
use Rattle.bp_codec.proofs.reader.Reader.new.Goals as goal

pub returns : goal.returns
returns c = new_fed c.args.max_len (form_of c.args.shape.now) c.requires.good _ _ (c.in_ok-new.ensures c.args.max_len) c.root.ensures refl refl c.new-2.ensures.items refl
