-- What the program `wallsheet` prints for an image on its standard input: the sheet of the keys that it holds; or, where the image is refused by 14 or 1, only
-- `refused`, a space and the number. It lends room for the longest sheet, so that 15 never comes. Assumes nothing.
use Rattle.std.specs.Prelude.{ℕ, List}
use Rattle.claims.specs.Question.{first_no, settle}
use Rattle.rule.specs.Node.{node_keys}
use Rattle.wire.specs.Image.{read_image_questions, read_image}
use Rattle.text.specs.Line.{refused_line}
use Rattle.sheet.specs.Sheet.{sheet_text}

unfoldable pub wall_text : List ℕ → List ℕ
wall_text image = settle (first_no (read_image_questions image)) (sheet_text (node_keys (read_image image).node)) refused_line
