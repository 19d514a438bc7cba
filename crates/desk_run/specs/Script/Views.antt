-- What the reader's own values mean.
use Rattle.desk_run.specs.declared.script.forms.Form as code_form
use Rattle.desk_run.specs.declared.script.forms.Form.TheVariants as form_is
use Rattle.desk_run.specs.Script.Forms.{Form, OpenForm, KeepForm, NarrowForm, NextForm, CloseForm}

-- a form of the code
abbrev pub form_meant : code_form.Form → Form
form_meant form_is.Open = OpenForm
form_meant (form_is.Keep bits) = KeepForm bits.now
form_meant (form_is.Narrow left right letters) = NarrowForm left.now right.now letters.now
form_meant form_is.Next = NextForm
form_meant form_is.Close = CloseForm
